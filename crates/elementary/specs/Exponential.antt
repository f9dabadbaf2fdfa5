-- E, the exponential (specification, section 7.3): ten terms of the series of e ^ (x / 256) in binary64, squared eight times, and rounded to binary32.
use Rattle.std.specs.Prelude.{ℕ, zero, suc, false, cond, is_nan, Float}
use Rattle.std.specs.Float.{nan, inf}
use Rattle.std.specs.Float.Ieee.{neg, lt, le}
use Rattle.elementary.specs.Notation.{◌⊞◌, ◌⊠◌, ◌⧄◌, lit, lit64, one64, whole64}
use Rattle.elementary.specs.Convert.{widen, narrow}

-- 256
abbrev pub c256 : Float
c256 = lit64 0x4070_0000_0000_0000

-- for k, k - 1, .., 1: p becomes 1 + (y / k) * p
unfoldable pub terms : ℕ → Float → Float → Float
terms zero y p = p
terms (suc k) y p = terms k y (one64 ⊞ y ⧄ whole64 (suc k) ⊠ p)

-- p squared n times
unfoldable pub squared : ℕ → Float → Float
squared zero p = p
squared (suc n) p = squared n (p ⊠ p)

-- y = x / 256; p = 1; the terms for k = 10 down to 1; squared eight times
unfoldable pub series : Float → Float
series x = let y = widen x ⧄ c256 in squared 8 (terms 10 y one64)

-- NaN gives NaN; below -104 gives +0; 89 or more gives +infinity; else the series, rounded
unfoldable pub exp : Float → Float
exp x = cond (is_nan x) nan (cond (lt x (neg (lit 0x42d0_0000))) (lit 0) (cond (le (lit 0x42b2_0000) x) (inf false) (narrow (series x))))
