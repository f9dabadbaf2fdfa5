-- what is still to do to h gives the whole sum
use Rattle.std.proofs.Common.{◌≡◌}
use Rattle.elementary.specs.Notation.{◌⧄◌, one64}
use Rattle.elementary.specs.Logarithm.{c31, odds}
use Rattle.elementary.proofs.logarithm.ln_terms.Given as goal

abbrev pub invariant-loop-n : goal.invariant-loop-n
invariant-loop-n l = odds l.n l.z l.h ≡ odds 15 l.z (one64 ⧄ c31)
