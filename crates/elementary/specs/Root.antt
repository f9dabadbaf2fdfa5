-- Q, the square root (specification, section 7.2): the binary32 value nearest to the exact root, by comparing squares of whole numbers.
use Rattle.std.specs.Prelude.{◌≡◌, ℕ, zero, suc, ◌+◌, ◌-◌, ◌*◌, ◌/◌, ◌^◌, ◌<◌, ◌≤◌, true, false, cond, T, nat_lt, Float}
use Rattle.std.specs.Float.{nan, inf, fin, binary32}
use Rattle.std.specs.Float.Ieee.{size, units}
use Rattle.std.specs.Float.Ieee.Exact.{HasValue}
use Rattle.std.specs.Float.Ieee.Positive.{positive}
use Rattle.elementary.specs.Units.{mag}

-- The largest g with (2 * g - 1) ^ 2 < 4 * n, which says that g - 1/2 is below the root of n, by its binary digits from the highest down:
-- from g on, the digits of weight 2 ^ (d - 1), .., 2, 1, each set where that keeps the square below.
unfoldable pub digits : ℕ → ℕ → ℕ → ℕ
digits zero n g = g
digits (suc d) n g = let h = g + 2 ^ d in digits d n (cond (nat_lt ((2 * h - 1) * (2 * h - 1)) (4 * n)) h g)

-- the whole number nearest to the root of n, for a root of 24 digits. There is no tie, since 4 * n is even and (2 * g - 1) ^ 2 odd
abbrev pub nearest_root : ℕ → ℕ
nearest_root n = digits 24 n 0

-- The root of a units of 2 ^ -149, where a has `size a` binary digits. With n = a * 2 ^ 149 / 2 ^ (2 * k) it is 2 ^ k times the root of n, in units. This k gives n 47 or 48 digits, and its root 24.
unfoldable pub root_of : ℕ → Float
root_of a = let k = 51 + size a / 2 in units binary32 false (nearest_root (a * 2 ^ 149 / 2 ^ (2 * k))) k

-- NaN or below zero gives NaN; ±0 and +infinity give themselves
unfoldable pub sqrt : Float → Float
sqrt nan = nan
sqrt (inf true) = nan
sqrt (inf false) = inf false
sqrt (fin s zero e) = fin s zero e
sqrt (fin true (suc m) e) = nan
sqrt (fin false (suc m) e) = root_of (mag (fin false (suc m) e))

-- r is the binary32 value nearest to the root of x. `HasValue x s a c` says that x is finite, has the sign s and is a / c in size: x is n * (2 ^ k / 2 ^ 149) ^ 2 and r is g * 2 ^ k / 2 ^ 149, exactly,
-- so r stands to the root of x as g to the root of n. The root of n has 24 digits before the point, so r's neighbours are g - 1 and g + 1, and it lies strictly between g - 1/2 and g + 1/2.
pub record NearestRoot (x r : Float) : Type 0 where
  pub n : ℕ
  pub g : ℕ
  pub k : ℕ
  pub argument : HasValue x false (n * 2 ^ (2 * k)) (2 ^ 298)
  pub result : HasValue r false (g * 2 ^ k) (2 ^ 149)
  pub scaled : (2 ^ 46 ≤ n) × (n < 2 ^ 48)
  pub significand : (2 ^ 23 ≤ g) × (g < 2 ^ 24)
  pub below : (2 * g - 1) * (2 * g - 1) < 4 * n
  pub above : 4 * n < (2 * g + 1) * (2 * g + 1)

-- what the function ensures: r is Q of x, and of a finite x above zero it is the nearest value to the root
pub record Root (x r : Float) : Type 0 where
  pub is : r ≡ sqrt x
  pub nearest : T (positive x) → NearestRoot x r
