-- Each constant of the definitions has the bits that its decimal literal rounds to, by computation. Assumes nothing.
use Rattle.std.proofs.Common.{◌≡◌, false, refl}
use lib.Ieee.{nan, inf, binary32, binary64, round, of_bits}
use Rattle.elementary.specs.Notation.{lit, one64, decimal}
use Rattle.elementary.specs.Constants.{pi, inv_4_pi}
use Rattle.elementary.specs.Exponential.{c256}
use Rattle.elementary.specs.Logarithm.{two, c31, ln2}

-- 3.14159265358979323846264338327950288
pub pi_literal : pi ≡ decimal binary32 314159265358979323846264338327950288 35
unfolding round of_bits
pi_literal = refl

-- 0.079_577_471_545_947_667_88
pub inv4_pi_literal : inv_4_pi ≡ decimal binary32 7957747154594766788 20
unfolding round of_bits
inv4_pi_literal = refl

-- 0, 1, 89, 104 and 2 ^ -126, which is 1.17549435e-38, in binary32
pub zero_literal : lit 0 ≡ decimal binary32 0 0
unfolding round of_bits
zero_literal = refl

pub one_literal : lit 0x3f80_0000 ≡ decimal binary32 1 0
unfolding round of_bits
one_literal = refl

pub c89_literal : lit 0x42b2_0000 ≡ decimal binary32 89 0
unfolding round of_bits
c89_literal = refl

pub c104_literal : lit 0x42d0_0000 ≡ decimal binary32 104 0
unfolding round of_bits
c104_literal = refl

pub smallest_normal_literal : lit 0x0080_0000 ≡ decimal binary32 117549435 46
unfolding round of_bits
smallest_normal_literal = refl

-- 1, 2, 31, 256 and 0.6931471805599453 in binary64
pub one64_literal : one64 ≡ decimal binary64 1 0
unfolding round of_bits
one64_literal = refl

pub two_literal : two ≡ decimal binary64 2 0
unfolding round of_bits
two_literal = refl

pub c31_literal : c31 ≡ decimal binary64 31 0
unfolding round of_bits
c31_literal = refl

pub c256_literal : c256 ≡ decimal binary64 256 0
unfolding round of_bits
c256_literal = refl

pub ln2_literal : ln2 ≡ decimal binary64 6931471805599453 16
unfolding round of_bits
ln2_literal = refl

-- the patterns of `f32::INFINITY` and `f32::NAN`
pub infinity_bits : lit 0x7f80_0000 ≡ inf false
unfolding of_bits
infinity_bits = refl

pub nan_bits : lit 0x7fc0_0000 ≡ nan
unfolding of_bits
nan_bits = refl

pub ruleset specials = (infinity_bits, nan_bits)
