-- A number's length in binary digits, `size`: by its leading zeros, of a shifted number, and of a quotient by a power of two; and powers of two as a machine's word has them. Assumes nothing.
use Rattle.std.proofs.Common.{◌≡◌, ℕ, zero, suc, ◌+◌, ◌-◌, ◌*◌, ◌/◌, ◌%◌, ◌^◌, ◌<◌, ◌≤◌, sym, ap, ◌∙◌, subst, le_trans, le_of_eq, lt_of_lt_of_le, mul-le-mul_right, mul_assoc, div-lt_iff_lt-mul, one-mul, lt_of_not-le, le-div_iff_mul-le, not-le_of_lt, arith, lit<, pow_pos, pow_mono, pow-add, shl_lt, shl_exact}
use native.Mathlib.Nat.{pow-succ'}
use lib.Count.{count_leading_zeros, leading_unique}
use lib.Ieee.{size}
use lib.Ieee.Digits.{size-lt, size-le, size_reaches}

twice_ge : (n : ℕ) → 2 ^ size n ≤ 2 * n + 1
twice_ge n = go (size n) (size_reaches n)
  where
    go : (z : ℕ) → ((j : ℕ) → j < z → 2 ^ j ≤ n) → 2 ^ z ≤ 2 * n + 1
    go zero h = omega arith
    go (suc z) h =
        let a : 2 ^ z ≤ n = h z (omega arith) in
        let b : 2 ^ suc z ≡ 2 * 2 ^ z = pow-succ' 2 z in
        omega arith

-- the leading zeros and the length make the width
pub lead_size : (k a : ℕ) → a < 2 ^ k → count_leading_zeros k a + size a ≡ k
lead_size k a h =
    let l : size a ≤ k = size-le a k h in
    let u : k - size a ≡ count_leading_zeros k a = leading_unique k a (k - size a) (size a) (omega arith) (size-lt a) (twice_ge a) in
    omega arith

pub size_gt : (n j : ℕ) → 2 ^ j ≤ n → j < size n
size_gt n j h = lt_of_not-le (λ (g : size n ≤ j). not-le_of_lt (lt_of_lt_of_le (size-lt n) (pow_mono g)) h)

-- the length of q * 2 ^ j
pub size_shifted : (q j : ℕ) → 0 < q → size (q * 2 ^ j) ≡ size q + j
size_shifted q j P =
    let z : 0 < size q = size_gt q 0 P in
    let lo : size q - 1 + j < size (q * 2 ^ j) =
    size_gt (q * 2 ^ j) (size q - 1 + j) (le_trans (le_of_eq (pow-add 2 (size q - 1) j)) (mul-le-mul_right (2 ^ j) (size_reaches q (size q - 1) (omega arith)))) in
    let hi : size (q * 2 ^ j) ≤ size q + j = size-le (q * 2 ^ j) (size q + j) (shl_lt (size q) j (size-lt q)) in
    omega arith

-- with a q of 24 digits
pub size_normal : (q j : ℕ) → 2 ^ 23 ≤ q → q < 2 ^ 24 → size (q * 2 ^ j) ≡ 24 + j
size_normal q j l h = size_shifted q j (lt_of_lt_of_le (lit< tt) l) ∙ omega (arith, size_gt q 23 l, size-le q 24 h)

-- the length of q * 2 ^ a / 2 ^ b
pub shifted_le : (q a b z m : ℕ) → q < 2 ^ z → z + a ≤ m + b → size (q * 2 ^ a / 2 ^ b) ≤ m
shifted_le q a b z m h l =
    size-le (q * 2 ^ a / 2 ^ b) m
    ((div-lt_iff_lt-mul (pow_pos b)).1 (lt_of_lt_of_le (shl_lt z a h) (le_trans (pow_mono l) (le_of_eq (pow-add 2 m b)))))

pub shifted_gt : (q a b z m : ℕ) → 2 ^ z ≤ q → m + b ≤ z + a → m < size (q * 2 ^ a / 2 ^ b)
shifted_gt q a b z m h l =
    size_gt (q * 2 ^ a / 2 ^ b) m
    ((le-div_iff_mul-le (pow_pos b)).1 (le_trans (le_of_eq (sym (pow-add 2 m b))) (le_trans (pow_mono l) (le_trans (le_of_eq (pow-add 2 z a)) (mul-le-mul_right (2 ^ a) h)))))

-- two shifts are one
pub two_pows : (q a b : ℕ) → q * 2 ^ a * 2 ^ b ≡ q * 2 ^ (a + b)
two_pows q a b = mul_assoc q (2 ^ a) (2 ^ b) ∙ ap (λ (n : ℕ). q * n) (sym (pow-add 2 a b))

pub pow_lt_back : {i j : ℕ} → 2 ^ i < 2 ^ j → i < j
pow_lt_back h = lt_of_not-le (λ g. not-le_of_lt h (pow_mono g))

-- `1 << (d - 1)` of a machine's word: half of 2 ^ d
pub record Half (d u : ℕ) : Type 0 where
  pub is : u ≡ 2 ^ (d - 1)
  pub some : 0 < u
  pub twice : 2 * u ≡ 2 ^ d

pub half_shifted : (d w : ℕ) → 0 < d → d ≤ w → Half d (1 * 2 ^ (d - 1) % 2 ^ w)
half_shifted d w D h =
    let e = shl_exact 1 (d - 1) w (lit< tt) (omega arith) ∙ one-mul (2 ^ (d - 1)) in
    let s : suc (d - 1) ≡ d = omega arith in
    record {
      is = e;
      some = subst (λ (n : ℕ). 0 < n) (sym e) (pow_pos (d - 1));
      twice = ap (λ (n : ℕ). 2 * n) e ∙ sym (pow-succ' 2 (d - 1)) ∙ ap (λ (n : ℕ). 2 ^ n) s;
    }
