-- what is left of both lists, over the lists so far, gives what the whole gives
use Rattle.std.proofs.Common.{◌≡◌}
use Rattle.lists.specs.Lists.{set_lens}
use Rattle.lists.proofs.lines.Lists.set_lens.Given as goal

abbrev pub invariant-loop-name : goal.invariant-loop-name
invariant-loop-name l = set_lens l.name-iterator.a.rest.now l.name-iterator.b.rest.now l.self ≡ set_lens l.names l.lens l.fn.self
