-- `sqrt x`, of a finite binary32 x above zero, is the binary32 value nearest to the root of x (`sqrt_nearest`), and what `NearestRoot` says holds of no other (`nearest_unique`). Assumes nothing.
use Rattle.std.proofs.Common.{◌≡◌, ℕ, zero, suc, ◌+◌, ◌-◌, ◌*◌, ◌^◌, ◌<◌, ◌≤◌, true, false, T, sym, refl, ap, ◌∙◌, subst, le_trans, le_of_eq, lt_of_lt_of_le, lt_irrefl, mod-lt, mul-le-mul, mul-lt-mul_of_pos_right, arith, pow_pos, pow_mono, pow-add}
use native.Mathlib.Nat.{eq_of_mul-eq-mul_right}
use lib.Ieee.{Float, nan, inf, fin, binary32, fits, size, down}
use lib.Ieee.Fits.{down_pos}
use lib.Ieee.Exact.{HasValue}
use lib.Ieee.Positive.{positive}
use Rattle.elementary.specs.Units.{mag, units_of, Normalised}
use Rattle.elementary.specs.Root.{sqrt, root_of, NearestRoot, Root}
use Rattle.elementary.proofs.Magnitude.{mag_at, units_at, field_small, some_part}
use Rattle.elementary.proofs.Values.{unique, pattern, field, digits}
use Rattle.elementary.proofs.Squares.{between_unique}
use Rattle.elementary.proofs.Scaled.{subnormal, normal, root_nearest}

-- ---- `sqrt` by the size of its argument in units

pub sqrt_mag : (x : Float) → T (positive x) → root_of (mag x) ≡ sqrt x
unfolding sqrt
sqrt_mag nan p = absurd p
sqrt_mag (inf s) p = absurd p
sqrt_mag (fin true m e) p = absurd p
sqrt_mag (fin false zero e) p = absurd p
sqrt_mag (fin false (suc m) e) p = refl

pub sqrt_units : (x : Float) (a : ℕ) → T (positive x) → HasValue x false a (2 ^ 149) → root_of a ≡ sqrt x
sqrt_units x a p v = ap root_of (sym (mag_at x false a v)) ∙ sqrt_mag x p

-- ---- it is the nearest value

module _ (x : Float) (F : T (fits binary32 x)) (p : T (positive x)) where
  pub in_units : (a : ℕ) × (q : ℕ) × (length : ℕ) × Normalised a q length × HasValue x false a (2 ^ 149)
  in_units = go (field binary32 x F) (digits binary32 x F) (field_small x F p) (mod-lt (pattern binary32 x F) (pow_pos 23)) (some_part x F p) (units_at x F p)
    where
      go : (k t : ℕ) → k < 255 → t < 2 ^ 23 → 0 < k + t → HasValue x false (units_of k t) (2 ^ 149) → (a : ℕ) × (q : ℕ) × (length : ℕ) × Normalised a q length × HasValue x false a (2 ^ 149)
      go zero t K h P v = (t, t * 2 ^ (24 - size t), size t, subnormal t (omega arith) h, v)
      go (suc k) t K h P v = ((2 ^ 23 + t) * 2 ^ k, 2 ^ 23 + t, k + 24, normal k t (omega arith) h, v)

  pub sqrt_nearest : NearestRoot x (sqrt x)
  sqrt_nearest = let w = in_units in subst (NearestRoot x) (sqrt_units x w.0 p w.4) (root_nearest w.0 w.1 w.2 w.3 x w.4)

-- what the function ensures, from its equation
pub root_of_equation : (x r : Float) → T (fits binary32 x) → r ≡ sqrt x → Root x r
root_of_equation x r F e = record { is = e; nearest = λ p. subst (NearestRoot x) (sym e) (sqrt_nearest x F p) }

-- ---- and no other is

same_size : (x : Float) (a b c : ℕ) → HasValue x false a c → HasValue x false b c → a ≡ b
same_size nan a b c v w = absurd v
same_size (inf s) a b c v w = absurd v
same_size (fin s m e) a b c v w = eq_of_mul-eq-mul_right (down e) (down_pos e) a b (sym v.1 ∙ w.1)

-- of two scalings by an even power that have 47 or 48 digits neither is the larger
same_power : (n k m l : ℕ) → n < 2 ^ 48 → 2 ^ 46 ≤ m → n * 2 ^ (2 * k) ≡ m * 2 ^ (2 * l) → k < l → ⊥
same_power n k m l h g e s =
    let i : 48 + 2 * k ≡ 46 + (2 + 2 * k) = omega arith in
    let j : 2 + 2 * k ≤ 2 * l = omega arith in
    let a : 2 ^ 48 * 2 ^ (2 * k) ≤ m * 2 ^ (2 * l) =
    le_trans (le_of_eq (sym (pow-add 2 48 (2 * k)) ∙ ap (λ (z : ℕ). 2 ^ z) i ∙ pow-add 2 46 (2 + 2 * k))) (mul-le-mul g (pow_mono j)) in
    lt_irrefl (m * 2 ^ (2 * l)) (lt_of_lt_of_le (subst (λ (z : ℕ). z < 2 ^ 48 * 2 ^ (2 * k)) e (mul-lt-mul_of_pos_right h (pow_pos (2 * k)))) a)

pub nearest_unique : (x r s : Float) → T (fits binary32 r) → T (fits binary32 s) → NearestRoot x r → NearestRoot x s → r ≡ s
nearest_unique x r s F G a b =
    let size_is = same_size x (a.n * 2 ^ (2 * a.k)) (b.n * 2 ^ (2 * b.k)) (2 ^ 298) a.argument b.argument in
    let lo : a.k < b.k → ⊥ = same_power a.n a.k b.n b.k a.scaled.1 b.scaled.0 size_is in
    let hi : b.k < a.k → ⊥ = same_power b.n b.k a.n a.k b.scaled.1 a.scaled.0 (sym size_is) in
    let k_is : b.k ≡ a.k = omega arith in
    let n_is : a.n ≡ b.n = eq_of_mul-eq-mul_right (2 ^ (2 * a.k)) (pow_pos (2 * a.k)) a.n b.n (size_is ∙ ap (λ (z : ℕ). b.n * 2 ^ (2 * z)) k_is) in
    let g_is : b.g ≡ a.g = between_unique b.n b.g a.g (b.below, b.above) (subst (λ (z : ℕ). (2 * a.g - 1) * (2 * a.g - 1) < 4 * z) n_is a.below, subst (λ (z : ℕ). 4 * z < (2 * a.g + 1) * (2 * a.g + 1)) n_is a.above) in
    unique binary32 r s false (a.g * 2 ^ a.k) F G a.result (subst (λ (z : ℕ). HasValue s false z (2 ^ 149)) (λ i. g_is i * 2 ^ k_is i) b.result)
