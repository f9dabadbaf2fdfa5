-- What the two tests of `ln` say of x: it is finite and above zero, and has at least 2 ^ 23 and fewer than 2 ^ 149 units of 2 ^ -149.
-- So the exponent's field of its pattern is neither 0 nor above 126 (`normal_field`, `field_below`), and the parts m and e by which `ln` is defined have x = m * 2 ^ e and 1 ≤ m < 2, exactly (`ln_parts`). Assumes nothing.
use Rattle.std.proofs.Common.{◌≡◌, ℕ, suc, ◌+◌, ◌-◌, ◌*◌, ◌^◌, ◌<◌, ◌≤◌, true, false, T, sym, refl, ap, ◌∙◌, subst, true≢false, le_trans, le_of_eq, lt_of_lt_of_le, le-add_right, lt_of_le_of_lt, mul-le-mul_right, mul_comm, lt_of_mul-lt-mul_right, mul-lt-mul_of_pos_right, le_of_mul-le-mul_right, arith, lit≤, pow_pos, pow-add, shl_lt, ltb-true}
use mathlib.Core.Bool.{false≢true}
use lib.Ieee.{Float, nan, inf, fin, binary32, binary64, up, down, size, fits, round, neg, lt, le, of_bits}
use lib.Ieee.Exact.{HasValue, round_exact}
use lib.Ieee.Positive.{positive, above, above_of_le, values_of_le}
use Rattle.elementary.specs.Notation.{lit, whole64}
use Rattle.elementary.specs.Units.{mag}
use Rattle.elementary.specs.Logarithm.{significand, exponent}
use Rattle.elementary.proofs.Lengths.{pow_lt_back, size_normal, two_pows}
use Rattle.elementary.proofs.Magnitude.{mag_at}
use Rattle.elementary.proofs.Values.{field, digits, subnormal_at, normal_at}
use Rattle.elementary.proofs.Quotients.{whole64_at}
use Rattle.elementary.proofs.Signs.{neg_at}

-- from 2 ^ -126 up to 1
pub record Inside (x : Float) : Type 0 where
  pub low : le (lit 0x0080_0000) x ≡ true
  pub high : lt x (lit 0x3f80_0000) ≡ true

smallest : HasValue (lit 0x0080_0000) false 1 (2 ^ 126)
unfolding of_bits
smallest = (refl, refl)

smallest_positive : T (positive (lit 0x0080_0000))
unfolding of_bits
smallest_positive = tt

finite_above : (x : Float) → T (above x) → lt x (lit 0x3f80_0000) ≡ true → T (positive x)
unfolding lt of_bits
finite_above nan a h = absurd a
finite_above (inf true) a h = absurd a
finite_above (inf false) a h = absurd (false≢true h)
finite_above (fin true m e) a h = absurd a
finite_above (fin false m e) a h = a

under_one : (x : Float) (a : ℕ) → lt x (lit 0x3f80_0000) ≡ true → HasValue x false a (2 ^ 149) → a < 2 ^ 149
unfolding lt of_bits
under_one nan a h v = absurd v
under_one (inf s) a h v = absurd v
under_one (fin true m e) a h v = absurd (true≢false v.0)
under_one (fin false m e) a h v =
    let q : m * up e * 1 < 1 * down e = ltb-true (m * up e * 1) (1 * down e) h in
    let r : m * up e < down e = omega arith in
    lt_of_mul-lt-mul_right (down e) (subst (λ (n : ℕ). n < 2 ^ 149 * down e) v.1 (subst (λ (n : ℕ). m * up e * 2 ^ 149 < n) (mul_comm (down e) (2 ^ 149)) (mul-lt-mul_of_pos_right r (pow_pos 149))))

module _ (x : Float) (i : Inside x) where
  at_least : T (le (lit 0x0080_0000) x)
  at_least = subst T (sym i.low) tt

  pub inside_positive : T (positive x)
  inside_positive = finite_above x (above_of_le (lit 0x0080_0000) x smallest_positive at_least) i.high

  pub inside_units : (a : ℕ) → HasValue x false a (2 ^ 149) → (2 ^ 23 ≤ a) × (a < 2 ^ 149)
  inside_units a v = (
    le_of_mul-le-mul_right (values_of_le (lit 0x0080_0000) x 1 (2 ^ 126) a (2 ^ 149) smallest_positive inside_positive smallest v at_least) (pow_pos 126),
    under_one x a i.high v,
  )

-- ---- the significand and the exponent

-- x = m * 2 ^ e with 1 ≤ m < 2: x is a / 2 ^ 149, m is a / 2 ^ k, and e is k - 149
pub record Parts (x m e : Float) : Type 0 where
  pub a : ℕ
  pub k : ℕ
  pub argument : HasValue x false a (2 ^ 149)
  pub from_one : 2 ^ k ≤ a
  pub below_two : a < 2 ^ suc k
  pub significand_is : HasValue m false a (2 ^ k)
  pub exponent_is : HasValue e true (149 - k) 1

-- of q * 2 ^ j units, with a q of 24 digits
parts_of : (x : Float) (q j : ℕ) → 2 ^ 23 ≤ q → q < 2 ^ 24 → HasValue x false (q * 2 ^ j) (2 ^ 149) → Parts x (significand (q * 2 ^ j)) (exponent (q * 2 ^ j))
parts_of x q j l h v =
    let z : size (q * 2 ^ j) ≡ 24 + j = size_normal q j l h in
    let k : 23 + j ≡ size (q * 2 ^ j) - 1 = omega arith in
    let up : 24 + j ≡ suc (23 + j) = omega arith in
    let n : 150 - size (q * 2 ^ j) ≡ 149 - (23 + j) = omega arith in
    let w : 149 - (23 + j) ≤ 2 ^ 53 = omega arith in
    let same : j + 1074 ≡ 1051 + (23 + j) = omega arith in
    record {
      a = q * 2 ^ j;
      k = 23 + j;
      argument = v;
      from_one = le_trans (le_of_eq (pow-add 2 23 j)) (mul-le-mul_right (2 ^ j) l);
      below_two = subst (λ (m : ℕ). q * 2 ^ j < 2 ^ m) up (shl_lt 24 j h);
      significand_is =
          subst (λ (m : ℕ). HasValue (round binary64 false (q * 2 ^ j) (2 ^ m)) false (q * 2 ^ j) (2 ^ (23 + j))) k
          (round_exact binary64 false (q * 2 ^ j) (2 ^ (23 + j)) q 1051 (pow_pos (23 + j)) (lt_of_lt_of_le h (lit≤ tt)) (lt_of_lt_of_le (shl_lt 24 1051 h) (lit≤ tt))
          (two_pows q j 1074 ∙ ap (λ (m : ℕ). q * 2 ^ m) same ∙ sym (two_pows q 1051 (23 + j))));
      exponent_is = subst (λ (m : ℕ). HasValue (neg (whole64 m)) true (149 - (23 + j)) 1) (sym n) (neg_at (whole64 (149 - (23 + j))) false (149 - (23 + j)) 1 (whole64_at (149 - (23 + j)) w));
    }

module _ (x : Float) (F : T (fits binary32 x)) (i : Inside x) where
  abbrev pub digit_part : ℕ
  digit_part = 2 ^ 23 + digits binary32 x F

  abbrev pub power : ℕ
  power = field binary32 x F - 1

  pub normal_field : field binary32 x F ≡ 0 → ⊥
  normal_field e = omega (arith, (inside_units x i _ (subnormal_at binary32 x F (inside_positive x i) e)).0)

  pub value : HasValue x false (digit_part * 2 ^ power) (2 ^ 149)
  value = normal_at binary32 x F (inside_positive x i) normal_field

  pub field_below : power < 126
  field_below =
      let l : 23 + power < 149 =
      pow_lt_back (lt_of_le_of_lt (le_trans (le_of_eq (pow-add 2 23 power)) (mul-le-mul_right (2 ^ power) (le-add_right (2 ^ 23) (digits binary32 x F)))) (inside_units x i (digit_part * 2 ^ power) value).1) in
      omega arith

  pub ln_parts : Parts x (significand (mag x)) (exponent (mag x))
  ln_parts =
      subst (λ (a : ℕ). Parts x (significand a) (exponent a)) (sym (mag_at x false (digit_part * 2 ^ power) value))
      (parts_of x digit_part power (le-add_right (2 ^ 23) (digits binary32 x F)) (omega arith) value)
