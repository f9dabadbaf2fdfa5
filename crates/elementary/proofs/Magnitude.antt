-- The size of x in units of 2 ^ -149: `mag x` is whatever number of units x is said to have (`mag_at`), a finite binary32 x has exactly `mag x` of them (`mag_exact`), and by the parts of its pattern x has `units_of` them (`units_at`). Assumes nothing.
use Rattle.std.proofs.Common.{◌≡◌, ℕ, zero, suc, ◌+◌, ◌-◌, ◌*◌, ◌/◌, ◌^◌, ◌<◌, Bool, false, T, ℤ, sym, refl, ap, ◌∙◌, subst, mul-one, mul-div_cancel, arith, pow_pos}
use lib.Ieee.{Float, nan, inf, fin, binary32, fits, down}
use lib.Ieee.Fits.{down_pos}
use lib.Ieee.Exact.{HasValue}
use lib.Ieee.Positive.{positive, value_pos}
use Rattle.elementary.specs.Units.{mag, units_of}
use Rattle.elementary.proofs.Values.{pattern, field, digits, field_lt, not_top, finite_units, subnormal_at, normal_at}

pub mag_at : (x : Float) (s : Bool) (a : ℕ) → HasValue x s a (2 ^ 149) → mag x ≡ a
unfolding mag
mag_at nan s a v = absurd v
mag_at (inf t) s a v = absurd v
mag_at (fin t m e) s a v = ap (λ (n : ℕ). n / down e) v.1 ∙ mul-div_cancel a (down_pos e)

-- of a binary32 value the division in `mag` leaves no remainder
pub mag_exact : (s : Bool) (m : ℕ) (e : ℤ) → T (fits binary32 (fin s m e)) → HasValue (fin s m e) s (mag (fin s m e)) (2 ^ 149)
mag_exact s m e F =
    let u = finite_units binary32 s m e F in
    subst (λ (a : ℕ). HasValue (fin s m e) s a (2 ^ 149)) (sym (mag_at (fin s m e) s (u.0 * 2 ^ u.1) u.4)) u.4

-- ---- a finite x above zero, by the parts of its pattern

module _ (x : Float) (F : T (fits binary32 x)) (p : T (positive x)) where
  pub units_at : HasValue x false (units_of (field binary32 x F) (digits binary32 x F)) (2 ^ 149)
  units_at = go (field binary32 x F) refl
    where
      t : ℕ
      t = digits binary32 x F

      go : (k : ℕ) → field binary32 x F ≡ k → HasValue x false (units_of k t) (2 ^ 149)
      go zero e = subst (λ (a : ℕ). HasValue x false a (2 ^ 149)) (mul-one t) (subnormal_at binary32 x F p e)
      go (suc k) e =
          let i : field binary32 x F - 1 ≡ k = omega arith in
          subst (λ (j : ℕ). HasValue x false ((2 ^ 23 + t) * 2 ^ j) (2 ^ 149)) i (normal_at binary32 x F p (λ z. omega arith))

  -- the parts are in range, and not both 0
  pub field_small : field binary32 x F < 255
  field_small = let n : field binary32 x F ≡ 255 → ⊥ = not_top binary32 x F p in omega (arith, field_lt binary32 (pattern binary32 x F))

  pub some_part : 0 < field binary32 x F + digits binary32 x F
  some_part = go (field binary32 x F) (digits binary32 x F) (value_pos x (units_of (field binary32 x F) (digits binary32 x F)) (2 ^ 149) p (pow_pos 149) units_at)
    where
      go : (k t : ℕ) → 0 < units_of k t → 0 < k + t
      go zero t h = omega arith
      go (suc k) t h = omega arith
