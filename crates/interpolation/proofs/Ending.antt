-- When a round is the last: the size of d is below 1e-6 where d lies between -1e-6 and 1e-6, as the code tests.
use Rattle.std.proofs.Common.{◌≡◌, cond, false, lit<}
use lib.Ieee.{Float, lt, neg, of_bits}
use Rattle.elementary.specs.Notation.{lit}
use Rattle.elementary.specs.Sign.{abs}
use Rattle.elementary.proofs.Signs.{abs_below}

pub size_is : (d : Float) → lt (abs d) (lit 0x358637bd) ≡ cond (lt d (lit 0x358637bd)) (lt (neg (lit 0x358637bd)) d) false
unfolding of_bits
size_is d = abs_below d _ _ (lit< tt)

pub ruleset ending = (size_is)
