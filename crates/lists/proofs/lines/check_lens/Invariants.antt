-- what is left of both lists is within exactly where the whole is
use Rattle.std.proofs.Common.{◌≡◌}
use Rattle.lists.specs.Lists.{within}
use Rattle.lists.proofs.lines.check_lens.Given as goal

abbrev pub invariant-loop-name : goal.invariant-loop-name
invariant-loop-name l = within l.name-iterator.a.rest.now l.name-iterator.b.rest.now ≡ within l.names l.lens
