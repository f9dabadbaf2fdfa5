-- A finite binary32 value is a whole number of the format's smallest positive value, 2^-149, which is the unit here: x is exactly plus x - minus x units.
-- One of the two is 0, by the sign. So a sum of values is stated exactly, over natural numbers: by the sum of the `plus` and the sum of the `minus`.
use Rattle.std.specs.Prelude.{ℕ, ◌^◌, cond, T, Float}
use Rattle.std.specs.Float.{nan, inf, fin, binary32}
use Rattle.std.specs.Float.Ieee.{fits}
use Rattle.std.specs.Float.Ieee.Scale.{finite}
use Rattle.elementary.specs.Units.{mag}

-- x is finite, and a value of binary32
pub record Number (x : Float) : Type 0 where
  pub is_finite : T (finite x)
  pub holds : T (fits binary32 x)

-- the number 1, in units
unfoldable pub one : ℕ
one = 2 ^ 149

-- the size where x is not negative, and the size where it is: 0 otherwise
unfoldable pub plus : Float → ℕ
plus nan = 0
plus (inf s) = 0
plus (fin s m e) = cond s 0 (mag (fin s m e))

unfoldable pub minus : Float → ℕ
minus nan = 0
minus (inf s) = 0
minus (fin s m e) = cond s (mag (fin s m e)) 0
