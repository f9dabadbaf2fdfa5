-- `Normal::new` meets its contract: x has `units_of` its field and digits (`units_at`), and the leading zeros of a subnormal significand, less 8, are what it lacks of 24 digits.
use Rattle.std.proofs.Common.{◌≡◌, ℕ, zero, suc, ◌+◌, ◌-◌, ◌*◌, ◌%◌, ◌^◌, ◌<◌, ◌≤◌, false, T, refl, sym, ap, ◌∙◌, subst, lt_of_lt_of_le, mod-lt, arith, lit≤, pow_pos, shl_exact}
use denote.Floats.{passes}
use lib.Count.{count_leading_zeros}
use lib.Ieee.{Float, binary32, fits, size}
use lib.Ieee.Digits.{size-lt, size-le}
use lib.Ieee.Positive.{positive}
use Rattle.elementary.specs.Units.{mag, units_of, Normalised}
use Rattle.elementary.proofs.Lengths.{lead_size}
use Rattle.elementary.proofs.Values.{pattern, field, digits, number}
use Rattle.elementary.proofs.Magnitude.{mag_at, units_at, field_small, some_part}
use Rattle.elementary.proofs.Scaled.{subnormal, normal}
use Rattle.elementary.proofs.normal.Normal.new.Goals as goal

-- at a field of 0
module _ (t : ℕ) (small : t < 2 ^ 23) where
  length_le : size t ≤ 23
  length_le = size-le t 23 small

  zeros_is : count_leading_zeros 32 t + size t ≡ 32
  zeros_is = lead_size 32 t (lt_of_lt_of_le small (lit≤ tt))

  abbrev zeros : ℕ
  zeros = count_leading_zeros 32 t - 8

  scaled : 0 < t → Normalised t (t * 2 ^ zeros % 2 ^ 32) (24 - zeros)
  scaled some =
      let z : zeros ≡ 24 - size t = omega (arith, zeros_is, length_le) in
      let l : size t ≡ 24 - zeros = omega (arith, zeros_is, length_le) in
      let q : t * 2 ^ (24 - size t) ≡ t * 2 ^ zeros % 2 ^ 32 = sym (shl_exact (size t) (24 - size t) 32 (size-lt t) (omega (arith, length_le))) ∙ ap (λ (n : ℕ). t * 2 ^ n % 2 ^ 32) (sym z) in
      subst (λ (m : ℕ). Normalised t m (24 - zeros)) q (subst (Normalised t (t * 2 ^ (24 - size t))) l (subnormal t some small))

at_zero : (k t : ℕ) → k ≡ 0 → 0 < k + t → (h : t < 2 ^ 23) → Normalised (units_of k t) (t * 2 ^ zeros t h % 2 ^ 32) (24 - zeros t h)
at_zero zero t e s h = scaled t h (omega arith)
at_zero (suc k) t e s h = absurd (omega arith)

above : (k t : ℕ) → (k ≡ 0 → ⊥) → k < 255 → t < 2 ^ 23 → Normalised (units_of k t) (2 ^ 23 + t) (k + 23)
above zero t z K h = absurd (z refl)
above (suc k) t z K h = let e : k + 24 ≡ suc k + 23 = omega arith in subst (Normalised ((2 ^ 23 + t) * 2 ^ k) (2 ^ 23 + t)) e (normal k t (omega arith) h)

-- by the parts of x
module _ (x : Float) (F : T (fits binary32 x)) (p : T (positive x)) where
  abbrev k : ℕ
  k = field binary32 x F

  abbrev t : ℕ
  t = digits binary32 x F

  small : t < 2 ^ 23
  small = mod-lt (pattern binary32 x F) (pow_pos 23)

  in_units : (q length : ℕ) → Normalised (units_of k t) q length → Normalised (mag x) q length
  in_units q length N = subst (λ (a : ℕ). Normalised a q length) (sym (mag_at x false (units_of k t) (units_at x F p))) N

  of_zero : k ≡ 0 → Normalised (mag x) (t * 2 ^ zeros t small % 2 ^ 32) (24 - zeros t small)
  of_zero e = in_units _ _ (at_zero k t e (some_part x F p) small)

  of_some : (k ≡ 0 → ⊥) → Normalised (mag x) (2 ^ 23 + t) (k + 23)
  of_some z = in_units _ _ (above k t z (field_small x F p) small)

pub float_to_bits-bits : goal.float_to_bits-bits
float_to_bits-bits c = number c.args.x c.requires

pub overflow_sub-zeros : goal.overflow_sub-zeros
overflow_sub-zeros c = let h = small c.args.x (passes _ c.well_formed.0.1) c.requires in omega (arith, zeros_is _ h, length_le _ h)

pub invariant_of-result : goal.invariant_of-result
invariant_of-result c = let N = of_zero c.args.x (passes _ c.well_formed.0.1) c.requires c.if-field-eq0.true in record { low = N.low; high = N.high; most = N.most }

pub returns-then-field-eq0 : goal.returns-then-field-eq0
returns-then-field-eq0 c = of_zero c.args.x (passes _ c.well_formed.0.1) c.requires c.if-field-eq0.true

pub invariant_of-result-2 : goal.invariant_of-result-2
invariant_of-result-2 c = let N = of_some c.args.x (passes _ c.well_formed.0.1) c.requires c.if-field-eq0.false in record { low = N.low; high = N.high; most = N.most }

pub returns : goal.returns
returns c = of_some c.args.x (passes _ c.well_formed.0.1) c.requires c.if-field-eq0.false
