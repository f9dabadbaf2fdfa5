-- L, the natural logarithm (specification, section 7.4), of an x from 2 ^ -126, the smallest normal value, up to 1: with x = m * 2 ^ e and 1 ≤ m < 2, a series in (m - 1) / (m + 1), in binary64, rounded to binary32.
use Rattle.std.specs.Prelude.{ℕ, zero, suc, ◌+◌, ◌-◌, ◌*◌, ◌^◌, false, cond, ◌&&◌, Float}
use Rattle.std.specs.Float.{nan, binary64}
use Rattle.std.specs.Float.Ieee.{size, round, neg, lt, le}
use Rattle.elementary.specs.Notation.{◌⊞◌, ◌⊟◌, ◌⊠◌, ◌⧄◌, lit, lit64, one64, whole64}
use Rattle.elementary.specs.Units.{mag}
use Rattle.elementary.specs.Convert.{narrow}

-- 2, 31 and C, which is ln 2
abbrev pub two : Float
two = lit64 0x4000_0000_0000_0000

abbrev pub c31 : Float
c31 = lit64 0x403f_0000_0000_0000

abbrev pub ln2 : Float
ln2 = lit64 0x3fe6_2e42_fefa_39ef

-- for odd k = 2 * n - 1, 2 * n - 3, .., 1: h becomes 1 / k + z * h
unfoldable pub odds : ℕ → Float → Float → Float
odds zero z h = h
odds (suc n) z h = odds n z (one64 ⧄ whole64 (2 * n + 1) ⊞ z ⊠ h)

-- s = (m - 1) / (m + 1); z = s * s; h = 1 / 31, then odd k = 29 down to 1; e * C + (2 * s) * h, rounded
unfoldable pub ln_series : Float → Float → Float
ln_series m e =
    let s = (m ⊟ one64) ⧄ (m ⊞ one64) in
    let h = odds 15 (s ⊠ s) (one64 ⧄ c31) in
    narrow (e ⊠ ln2 ⊞ two ⊠ s ⊠ h)

-- a units of 2 ^ -149 are m * 2 ^ e: a has `size a` binary digits, so m = a / 2 ^ (size a - 1) and e = size a - 150, which is negative below 1. Both are exact (`ln_parts` of proofs/Inside).
abbrev pub significand : ℕ → Float
significand a = round binary64 false a (2 ^ (size a - 1))

abbrev pub exponent : ℕ → Float
exponent a = neg (whole64 (150 - size a))

-- from 2 ^ -126 up to 1, and a NaN elsewhere, where L has no value
unfoldable pub ln : Float → Float
ln x = cond (le (lit 0x0080_0000) x && lt x (lit 0x3f80_0000)) (ln_series (significand (mag x)) (exponent (mag x))) nan
