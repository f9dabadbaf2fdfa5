-- A value by a significand q of 24 digits and its length in units of 2 ^ -149 (`subnormal`, `normal`), and its root. The number n whose root is taken is q * 2 ^ shift, of 47 or 48 digits,
-- and the result is its root times 2 ^ power (`root_is`). So the result is the nearest value to the root (`root_nearest`), and as a pattern it is power * 2 ^ 23 and the root (`root_bits`). Assumes nothing.
use Rattle.std.proofs.Common.{◌≡◌, ℕ, zero, suc, ◌+◌, ◌-◌, ◌*◌, ◌/◌, ◌%◌, ◌^◌, ◌<◌, ◌≤◌, false, sym, refl, ap, ◌∙◌, subst, le_trans, le_of_eq, lt_of_lt_of_le, le-add_right, mul-le-mul_right, add-mul, mul-pos, one-mul, arith, lit<, pow_pos, pow_mono, pow-add, shl_lt, shl_exact, inr, zero-add}
use lib.Pow.{shl-shr}
use lib.Ieee.{Float, binary32, size, units, of_bits}
use lib.Ieee.Digits.{size-lt, size-le, size_reaches}
use lib.Ieee.Exact.{HasValue, units_val}
use lib.Ieee.Positive.{first_pos}
use Rattle.elementary.specs.Units.{Normalised}
use Rattle.elementary.specs.Root.{nearest_root, root_of, NearestRoot}
use Rattle.elementary.proofs.Lengths.{size_gt, size_shifted, size_normal, two_pows}
use Rattle.elementary.proofs.Patterns.{packed}
use Rattle.elementary.proofs.Values.{scale_value}
use Rattle.elementary.proofs.Squares.{nearest_lt, nearest_ge, nearest_between}

-- ---- a significand of 24 digits

pub subnormal : (t : ℕ) → 0 < t → t < 2 ^ 23 → Normalised t (t * 2 ^ (24 - size t)) (size t)
subnormal t P h =
    let z = size t in
    let z_gt : 0 < z = size_gt t 0 P in
    let z_le : z ≤ 23 = size-le t 23 h in
    let up : z + (24 - z) ≡ 24 = omega arith in
    let dn : z - 1 + (24 - z) ≡ 23 = omega arith in
    let back : 24 - z + z ≡ 24 = omega arith in
    record {
      low = le_trans (le_of_eq (ap (λ (n : ℕ). 2 ^ n) (sym dn) ∙ pow-add 2 (z - 1) (24 - z))) (mul-le-mul_right (2 ^ (24 - z)) (size_reaches t (z - 1) (omega arith)));
      high = subst (λ (n : ℕ). t * 2 ^ (24 - z) < 2 ^ n) up (shl_lt z (24 - z) (size-lt t));
      most = omega arith;
      is = ap (λ (n : ℕ). t * 2 ^ n) (sym back) ∙ sym (two_pows t (24 - z) z);
    }

pub normal : (k t : ℕ) → k < 254 → t < 2 ^ 23 → Normalised ((2 ^ 23 + t) * 2 ^ k) (2 ^ 23 + t) (k + 24)
normal k t K h = record { low = le-add_right (2 ^ 23) t; high = omega arith; most = omega arith; is = two_pows (2 ^ 23 + t) k 24 }

-- ---- its root

root_of_is : (a k n : ℕ) → 51 + size a / 2 ≡ k → a * 2 ^ 149 / 2 ^ (2 * k) ≡ n → root_of a ≡ units binary32 false (nearest_root n) k
unfolding root_of
root_of_is a k n e f = ap (λ (j : ℕ). units binary32 false (nearest_root (a * 2 ^ 149 / 2 ^ (2 * j))) j) e ∙ ap (λ (m : ℕ). units binary32 false (nearest_root m) k) f

abbrev pub shift : ℕ → ℕ
shift length = 23 + length % 2

abbrev pub power : ℕ → ℕ
power length = 51 + length / 2

abbrev pub scaled : ℕ → ℕ → ℕ
scaled q length = q * 2 ^ shift length

module _ (q length : ℕ) (l : 2 ^ 23 ≤ q) (h : q < 2 ^ 24) where
  -- q + 1 is 2 ^ 24 at most, so n + 2 ^ shift is 2 ^ (24 + shift) at most, which is 2 ^ 47 or, with a shift of 24, 2 ^ 48
  pub under : scaled q length + 2 ^ 24 ≤ 2 ^ 48
  under = go (length % 2) refl
    where
      top : q * 2 ^ shift length + 2 ^ shift length ≤ 2 ^ (24 + shift length)
      top =
          le_trans (le_of_eq (ap (λ (z : ℕ). q * 2 ^ shift length + z) (sym (one-mul (2 ^ shift length))) ∙ sym (add-mul q 1 (2 ^ shift length))))
          (le_trans (mul-le-mul_right (2 ^ shift length) (omega arith)) (le_of_eq (sym (pow-add 2 24 (shift length)))))

      go : (r : ℕ) → length % 2 ≡ r → scaled q length + 2 ^ 24 ≤ 2 ^ 48
      go zero p =
          let a : 24 + shift length ≤ 47 = omega arith in
          omega (arith, top, pow_mono a)
      go (suc r) p =
          let a : 24 + shift length ≤ 48 = omega arith in
          let b : 24 ≤ shift length = omega arith in
          omega (arith, top, pow_mono a, pow_mono b)

  pub over : 2 ^ 46 ≤ scaled q length
  over =
      let a : 46 ≤ 23 + shift length = omega arith in
      le_trans (pow_mono a) (le_trans (le_of_eq (pow-add 2 23 (shift length))) (mul-le-mul_right (2 ^ shift length) l))

  pub some : 0 < scaled q length
  some = lt_of_lt_of_le (lit< tt) over

  -- the machine's shift loses nothing
  pub shifted : q * 2 ^ shift length % 2 ^ 64 ≡ scaled q length
  shifted = shl_exact 24 (shift length) 64 h (omega arith)

module _ (a q length : ℕ) (N : Normalised a q length) where
  abbrev root : ℕ
  root = nearest_root (scaled q length)

  pub length_is : size a ≡ length
  length_is =
      let A : 0 < a = first_pos a (2 ^ 24) (subst (λ (z : ℕ). 0 < z) (sym N.is) (mul-pos (lt_of_lt_of_le (lit< tt) N.low) (pow_pos length))) in
      omega (arith, size_shifted a 24 A, ap size N.is, size_normal q length N.low N.high)

  rescaled : a * 2 ^ 149 ≡ scaled q length * 2 ^ (2 * power length)
  rescaled =
      let e : length + 125 ≡ shift length + 2 * power length = omega arith in
      sym (two_pows a 24 125) ∙ ap (λ (z : ℕ). z * 2 ^ 125) N.is ∙ two_pows q length 125 ∙ ap (λ (z : ℕ). q * 2 ^ z) e ∙ sym (two_pows q (shift length) (2 * power length))

  pub root_is : root_of a ≡ units binary32 false root (power length)
  root_is =
      root_of_is a (power length) (scaled q length) (ap (λ (z : ℕ). 51 + z / 2) length_is)
      (ap (λ (m : ℕ). m / 2 ^ (2 * power length)) rescaled ∙ shl-shr (scaled q length) (2 * power length))

  pub root_bits : (r : ℕ) → r ≡ root → of_bits binary32 (power length * 2 ^ 23 + r) ≡ root_of a
  root_bits r f =
      let small : power length * 2 ^ 23 + root < 255 * 2 ^ 23 = omega (arith, N.most, nearest_lt (scaled q length)) in
      ap (λ (m : ℕ). of_bits binary32 (power length * 2 ^ 23 + m)) f
      ∙ ap (of_bits binary32) (sym (zero-add (power length * 2 ^ 23 + root)))
      ∙ packed false root (power length) (omega (arith, nearest_lt (scaled q length)), inr (nearest_ge (scaled q length) (over q length N.low N.high) (under q length N.low N.high))) small
      ∙ sym root_is

  pub argument : (x : Float) → HasValue x false a (2 ^ 149) → HasValue x false (scaled q length * 2 ^ (2 * power length)) (2 ^ 298)
  argument x v = subst (λ (z : ℕ). HasValue x false z (2 ^ 298)) rescaled (scale_value x false a (2 ^ 149) (2 ^ 149) v)

  pub root_nearest : (x : Float) → HasValue x false a (2 ^ 149) → NearestRoot x (root_of a)
  root_nearest x v =
      let i : 24 + power length ≤ 277 = omega (arith, N.most) in
      let b = nearest_between (scaled q length) (some q length N.low N.high) (under q length N.low N.high) in
      record {
        n = scaled q length;
        g = root;
        k = power length;
        argument = argument x v;
        result =
            subst (λ (r : Float). HasValue r false (root * 2 ^ power length) (2 ^ 149)) (sym root_is)
            (units_val binary32 false root (power length) (lt_of_lt_of_le (shl_lt 24 (power length) (nearest_lt (scaled q length))) (pow_mono i)));
        scaled = (over q length N.low N.high, omega (arith, under q length N.low N.high));
        significand = (nearest_ge (scaled q length) (over q length N.low N.high) (under q length N.low N.high), nearest_lt (scaled q length));
        below = b.0;
        above = b.1;
      }
