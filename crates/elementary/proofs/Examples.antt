-- The values of Q and E among the proved ones (specification, section 13.2), and L at 1/2, by computation. Assumes nothing.
use Rattle.std.proofs.Common.{◌≡◌, false, pos, negsuc, refl}
use lib.Ieee.{fin, size, units, round, is_nan, neg, add, sub, mul, div, lt, le, of_int, of_bits}
use Rattle.elementary.specs.Notation.{lit}
use Rattle.elementary.specs.Units.{mag}
use Rattle.elementary.specs.Convert.{rounded}
use Rattle.elementary.specs.Root.{digits, root_of, sqrt}
use Rattle.elementary.specs.Exponential.{terms, squared, series, exp}
use Rattle.elementary.specs.Logarithm.{odds, ln_series, ln}

-- Q(2) has bits 3FB504F3
pub sqrt_of_two : sqrt (fin false 1 (pos 1)) ≡ lit 0x3fb5_04f3
unfolding sqrt root_of digits mag units size of_bits
sqrt_of_two = refl

-- Q(2 ^ -148) is 2 ^ -74
pub sqrt_of_small : sqrt (fin false 1 (negsuc 147)) ≡ fin false 1 (negsuc 73)
unfolding sqrt root_of digits mag units size
sqrt_of_small = refl

-- E(0) = 1
pub exp_of_zero : exp (fin false 0 (pos 0)) ≡ fin false 1 (pos 0)
unfolding exp series terms squared rounded is_nan lt le neg add mul div of_int of_bits
exp_of_zero = refl

-- L(1/2) is the nearest value to -ln 2, -0.6931472
pub ln_of_half : ln (fin false 1 (negsuc 0)) ≡ neg (lit 0x3f31_7218)
unfolding ln ln_series odds mag rounded size round lt le neg sub add mul div of_int of_bits
ln_of_half = refl
