-- One step r = 1 - (y / k) * p of a series, each of the three operations rounded, over natural numbers: 1 is U, and a rounding moves its result by at most err.
-- Of two neighbours Y and Y' = Y + D with Y' at most 1/31, p and p' differ by at most D, so r and r' do, from k = 10 down to 2 (`next`); and the last step leaves 28/30 of D, up to the roundings (`last`).
-- Nothing here is about floats. Assumes nothing.
use mathlib.Core.Path.{◌≡◌, ap}
use Prim.Native.Nat.{ℕ, ◌+◌, ◌-◌, ◌*◌, ◌≤◌, ◌<◌}
use native.Mathlib.Nat.{mul-le-mul_right, mul-le-mul_left, le_of_mul-le-mul_right}
use native.Mathlib.Omega.{arith}

-- t is Y / k, q is t * P and r is 1 - q, each up to err
pub record Step (U err k Y P t q r : ℕ) : Type 0 where
  pub t_low : t * k ≤ Y + err * k
  pub t_high : Y ≤ t * k + err * k
  pub q_low : q * U ≤ t * P + err * U
  pub q_high : t * P ≤ q * U + err * U
  pub r_low : r + q ≤ U + err
  pub r_high : U ≤ r + q + err
  pub top : r ≤ U

-- Y is at most 1 / 31, and err is small
pub record Small (U err Y : ℕ) : Type 0 where
  pub some : 0 < U
  pub fine : err * 1048576 ≤ U
  pub low : Y * 31 ≤ U

pub t_small : {U err k Y P t q r : ℕ} → 0 < k → Step U err k Y P t q r → t ≤ Y + err
t_small {U} {err} {k} {Y} {P} {t} K s =
    let a : Y * 1 ≤ Y * k = mul-le-mul_left Y K in
    le_of_mul-le-mul_right {m = t} {n = Y + err} {k = k} (omega (arith, s.t_low)) K

q_small : {U err k Y P t q r : ℕ} → 0 < U → P ≤ U → Step U err k Y P t q r → q ≤ t + err
q_small {U} {err} {k} {Y} {P} {t} {q} H p s =
    let a : t * P ≤ t * U = mul-le-mul_left t p in
    le_of_mul-le-mul_right {m = q} {n = t + err} {k = U} (omega (arith, s.q_low)) H

-- so r is at least 29 / 30
pub r_large : {U err k Y P t q r : ℕ} → 0 < k → Small U err Y → P ≤ U → Step U err k Y P t q r → 29 * U ≤ 30 * r
r_large K m p s =
    let a = t_small K s in
    let b = q_small m.some p s in
    omega (arith, s.r_high, m.fine, m.low)

-- ... and at least 1 - Y, up to the roundings
pub r_from : {U err k Y P t q r : ℕ} → 0 < k → 0 < U → P ≤ U → Step U err k Y P t q r → U ≤ r + Y + 3 * err
r_from K H p s =
    let a = t_small K s in
    let b = q_small H p s in
    omega (arith, s.r_high)

-- ---- two neighbours

-- p and p' differ by at most D
pub record Neighbours (U D P P' : ℕ) : Type 0 where
  pub up : P ≤ P' + D
  pub down : P' ≤ P + D
  pub top : P ≤ U
  pub top' : P' ≤ U
  pub large : 29 * U ≤ 30 * P'

-- with t' = t + s, t' at most 1/30: the product q' is at most q + s + D / 30, up to the roundings
spread : (U err q q' t t' s P P' D : ℕ) → 0 < U → t' ≡ t + s → t' * 30 ≤ U → P ≤ U → P' ≤ P + D → q' * U ≤ t' * P' + err * U → t * P ≤ q * U + err * U → 30 * q' ≤ 30 * q + 30 * s + D + 60 * err
spread U err q q' t t' s P P' D H e l p d a b =
    let f : t' * P' ≤ t' * (P + D) = mul-le-mul_left t' d in
    let g : t' * P ≡ (t + s) * P = ap (λ (k : ℕ). k * P) e in
    let h : s * P ≤ s * U = mul-le-mul_left s p in
    let i : t' * 30 * D ≤ U * D = mul-le-mul_right D l in
    le_of_mul-le-mul_right {m = 30 * q'} {n = 30 * q + 30 * s + D + 60 * err} {k = U} (omega arith) H

-- and q at most q' + D / 30
back : (U err q q' t t' s P P' D : ℕ) → 0 < U → t' ≡ t + s → t' * 30 ≤ U → P ≤ P' + D → q * U ≤ t * P + err * U → t' * P' ≤ q' * U + err * U → 30 * q ≤ 30 * q' + D + 60 * err
back U err q q' t t' s P P' D H e l d a b =
    let f : t' * P ≤ t' * (P' + D) = mul-le-mul_left t' d in
    let g : t' * P ≡ (t + s) * P = ap (λ (k : ℕ). k * P) e in
    let i : t' * 30 * D ≤ U * D = mul-le-mul_right D l in
    le_of_mul-le-mul_right {m = 30 * q} {n = 30 * q' + D + 60 * err} {k = U} (omega arith) H

-- and, p' being at least 29/30, at most q' + D / 30 less 29/30 of s
forth : (U err q q' t t' s P P' D : ℕ) → 0 < U → t' ≡ t + s → t' * 30 ≤ U → 29 * U ≤ 30 * P' → P ≤ P' + D → q * U ≤ t * P + err * U → t' * P' ≤ q' * U + err * U → 30 * q + 29 * s ≤ 30 * q' + D + 60 * err
forth U err q q' t t' s P P' D H e l lo d a b =
    let f : t * P ≤ t * (P' + D) = mul-le-mul_left t d in
    let g : t' * P' ≡ (t + s) * P' = ap (λ (k : ℕ). k * P') e in
    let h : s * (29 * U) ≤ s * (30 * P') = mul-le-mul_left s lo in
    let j : t * 30 ≤ U = omega arith in
    let i : t * 30 * D ≤ U * D = mul-le-mul_right D j in
    le_of_mul-le-mul_right {m = 30 * q + 29 * s} {n = 30 * q' + D + 60 * err} {k = U} (omega arith) H

module _ {U err k Y Y' P P' t t' q q' r r' D : ℕ} (K : 0 < k) (m : Small U err Y') (e : Y' ≡ Y + D) (f : err * 1024 ≤ D) (o : t ≤ t')
    (n : Neighbours U D P P') (x : Step U err k Y P t q r) (x' : Step U err k Y' P' t' q' r') where
  t_limit : t' * 30 ≤ U
  t_limit = let a = t_small K x' in omega (arith, m.fine, m.low)

  split : t' ≡ t + (t' - t)
  split = omega arith

  -- the quotients differ by at most half of D, from k = 2 on
  shares : 2 ≤ k → k ≤ 10 → (t' - t) * 2 ≤ D + 20 * err
  shares l h =
      let s = t' - t in
      let a : t' * k ≡ (t + s) * k = ap (λ (z : ℕ). z * k) split in
      let b : s * 2 ≤ s * k = mul-le-mul_left s l in
      let c : err * k ≤ err * 10 = mul-le-mul_left err h in
      at s a b c x.t_high x'.t_low
    where
      at : (s : ℕ) → t' * k ≡ (t + s) * k → s * 2 ≤ s * k → err * k ≤ err * 10 → Y ≤ t * k + err * k → t' * k ≤ Y' + err * k → s * 2 ≤ D + 20 * err
      at s a b c g h = omega (arith, e)

  pub next : 2 ≤ k → k ≤ 10 → Neighbours U D r r'
  next l h =
      let g = shares l h in
      let a = spread U err q q' t t' (t' - t) P P' D m.some split t_limit n.top n.down x'.q_low x.q_high in
      let b = back U err q q' t t' (t' - t) P P' D m.some split t_limit n.up x.q_low x'.q_high in
      record {
        up = ends (t' - t) g a x.r_low x'.r_high;
        down = omega (arith, b, x'.r_low, x.r_high, f);
        top = x.top;
        top' = x'.top;
        large = r_large K m n.top' x';
      }
    where
      ends : (s : ℕ) → s * 2 ≤ D + 20 * err → 30 * q' ≤ 30 * q + 30 * s + D + 60 * err → r + q ≤ U + err → U ≤ r' + q' + err → r ≤ r' + D
      ends s g a c d = omega (arith, f)

  pub last : k ≡ 1 → 30 * r' + 28 * D ≤ 30 * r + 178 * err
  last z =
      let a = forth U err q q' t t' (t' - t) P P' D m.some split t_limit n.large n.up x.q_low x'.q_high in
      let b : t * k ≡ t * 1 = ap (λ (i : ℕ). t * i) z in
      let c : t' * k ≡ t' * 1 = ap (λ (i : ℕ). t' * i) z in
      let d : err * k ≡ err * 1 = ap (λ (i : ℕ). err * i) z in
      at (t' - t) split a b c d x.t_low x'.t_high x.r_high x'.r_low
    where
      at : (s : ℕ) → t' ≡ t + s → 30 * q + 29 * s ≤ 30 * q' + D + 60 * err → t * k ≡ t * 1 → t' * k ≡ t' * 1 → err * k ≡ err * 1 → t * k ≤ Y + err * k → Y' ≤ t' * k + err * k
          → U ≤ r + q + err → r' + q' ≤ U + err → 30 * r' + 28 * D ≤ 30 * r + 178 * err
      at s sp a b c d g h i j = omega (arith, e)
