-- A finite binary32 value is a whole number of the format's smallest positive value, 2 ^ -149, which is the unit here.
use Rattle.std.specs.Prelude.{◌≡◌, ℕ, zero, suc, ◌+◌, ◌*◌, ◌/◌, ◌^◌, ◌<◌, ◌≤◌, Float}
use Rattle.std.specs.Float.{nan, inf, fin}
use Rattle.std.specs.Float.Ieee.{up, down}

-- the size of ±m * 2 ^ e, in units: of a binary32 value the division leaves no remainder (`mag_exact` of proofs/Magnitude)
unfoldable pub mag : Float → ℕ
mag nan = 0
mag (inf s) = 0
mag (fin s m e) = m * up e * 2 ^ 149 / down e

-- the size, in units, of a finite value by its bit pattern: the exponent's field and the 23 digits below it. A field of 0 has no leading digit.
abbrev pub units_of : ℕ → ℕ → ℕ
units_of zero digits = digits
units_of (suc k) digits = (2 ^ 23 + digits) * 2 ^ k

-- a units, written with a significand q of 24 digits: a is q * 2 ^ size / 2 ^ 24, and its length in binary digits is the number `size`
pub record Normalised (a q size : ℕ) : Type 0 where
  pub low : 2 ^ 23 ≤ q
  pub high : q < 2 ^ 24
  pub most : size ≤ 277
  pub is : a * 2 ^ 24 ≡ q * 2 ^ size
