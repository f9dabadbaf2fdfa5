-- What `round binary32` does with q * 2 ^ j / 2 ^ 1074, which is how an `f64` reads: it drops d digits of q, and keeps the nearest whole number `closest q (2 ^ d)`.
-- By q's length z in digits d is z - 24 (`normal`), or 925 - j where the result is below the smallest normal `f32` (`subnormal`). Assumes nothing.
use Rattle.std.proofs.Common.{◌≡◌, ℕ, zero, suc, ◌+◌, ◌-◌, ◌*◌, ◌/◌, ◌%◌, ◌^◌, ◌<◌, ◌≤◌, Bool, cond, not, T, sym, refl, ap, ◌∙◌, subst, inl, inr, le_trans, le_of_eq, lt_of_lt_of_le, le_of_lt, mul-le-mul_right, mod-lt, suc-mul, mul-le-mul_left, mul-pos, div-add-mod', le-div_iff_mul-le, arith, lit<, eqb→eq, leb→le, pow_pos, pow_mono, pow-add, shr_lt}
use Prim.Native.Nat.{compare, Ordering}
use lib.Dec.{is_le, compare_is_eq, nleb→lt}
use lib.Arith.{le-zero, digits_div}
use lib.Ieee.{binary32, size, units, nearest, round, of_bits}
use lib.Ieee.Digits.{size-lt, size_reaches}
use lib.Ieee.Fits.{core, round_is, nearest-le, eq→eqb}
use lib.Ieee.Nearest.{closest, closest_same, closest_mono, nearest-ge}
use Rattle.elementary.proofs.Lengths.{shifted_le, shifted_gt, two_pows}
use Rattle.elementary.proofs.Patterns.{Kept, packed, past, infinite}

-- ---- the nearest whole number to q / (2 * h), a tie to the even one, by a sum and one division

quotient : (n w u r : ℕ) → n ≡ w * u + r → r < u → n / u ≡ w
quotient n w u r e h = ap (λ (z : ℕ). z / u) e ∙ digits_div w h

pub closest_sum : (q h : ℕ) → 0 < h → (q + (h - 1) + q / (2 * h) % 2) / (2 * h) ≡ closest q (2 * h)
closest_sum q h H = go (compare (r * 2) u) (leb→le (r * 2) u) (nleb→lt (r * 2) u) (eqb→eq (r * 2) u) (λ e. eq→eqb e)
  where
    u : ℕ
    u = 2 * h

    w : ℕ
    w = q / u

    r : ℕ
    r = q % u

    whole : w * u + r ≡ q
    whole = div-add-mod' q u

    small : r < u
    small = mod-lt q (mul-pos (lit< tt) H)

    next : suc w * u ≡ w * u + u
    next = suc-mul w u

    sum : ℕ
    sum = q + (h - 1) + w % 2

    even_or_odd : (b : ℕ) → w % 2 ≡ b → r * 2 ≡ u → sum / u ≡ w + w % 2
    even_or_odd zero e t = quotient sum w u (h + (h - 1)) (omega (arith, whole)) (omega arith) ∙ omega arith
    even_or_odd (suc b) e t = quotient sum (suc w) u 0 (omega (arith, whole, next)) (omega arith) ∙ omega arith

    go : (o : Ordering) → (T (is_le o) → r * 2 ≤ u) → (T (not (is_le o)) → u < r * 2) → (T (compare_is_eq o) → r * 2 ≡ u) → (r * 2 ≡ u → T (compare_is_eq o)) → sum / u ≡ nearest w o
    go Ordering.lt l g e n = quotient sum w u (r + (h - 1) + w % 2) (omega (arith, whole)) (omega (arith, l tt, n))
    go Ordering.eq l g e n = even_or_odd (w % 2) refl (e tt)
    go Ordering.gt l g e n = quotient sum (suc w) u (r + (h - 1) + w % 2 - u) (omega (arith, whole, next, g tt)) (omega (arith, small))

-- the whole number that q / (2 * h) is within half of
pub closest_is : (q h w : ℕ) → 0 < h → w * (2 * h) < q + h → q < w * (2 * h) + h → closest q (2 * h) ≡ w
closest_is q h w H l u =
    let n = q + (h - 1) + q / (2 * h) % 2 in
    sym (closest_sum q h H) ∙ quotient n w (2 * h) (n - w * (2 * h)) (omega arith) (omega arith)

-- ---- the rounding, in q's own digits

same_fraction : (q j l d m k : ℕ) → j + l + d ≡ m + k → q * 2 ^ j * 2 ^ l * 2 ^ d ≡ q * (2 ^ m * 2 ^ k)
same_fraction q j l d m k e =
    ap (λ (n : ℕ). n * 2 ^ d) (two_pows q j l) ∙ two_pows q (j + l) d ∙ ap (λ (n : ℕ). q * n) (ap (λ (n : ℕ). 2 ^ n) e ∙ pow-add 2 m k)

-- in units of the smallest `f32` the fraction's whole part is `whole`
abbrev whole : ℕ → ℕ → ℕ
whole q j = q * 2 ^ j * 2 ^ 149 / 2 ^ 1074

pub rounded : (s : Bool) (a q l d k : ℕ) → a * 2 ^ 149 * 2 ^ d ≡ q * (2 ^ l * 2 ^ k) → size (a * 2 ^ 149 / 2 ^ l) - 24 ≡ k → round binary32 s a (2 ^ l) ≡ units binary32 s (closest q (2 ^ d)) k
rounded s a q l d k e z =
    round_is binary32 s a (2 ^ l)
    ∙ ap (λ (n : ℕ). core binary32 s (a * 2 ^ 149) (2 ^ l) n) z
    ∙ ap (λ (n : ℕ). units binary32 s n k) (closest_same (a * 2 ^ 149) (2 ^ l * 2 ^ k) q (2 ^ d) (mul-pos (pow_pos l) (pow_pos k)) (pow_pos d) e)

whole_is : (q j : ℕ) → whole q j ≡ q * 2 ^ (j + 149) / 2 ^ 1074
whole_is q j = ap (λ (n : ℕ). n / 2 ^ 1074) (two_pows q j 149)

kept_le : (q d : ℕ) → q < 2 ^ (24 + d) → closest q (2 ^ d) ≤ 2 ^ 24
kept_le q d h = le_trans (nearest-le (q / 2 ^ d) (compare (q % 2 ^ d * 2) (2 ^ d))) (shr_lt 24 d h)

kept_ge : (q d : ℕ) → 2 ^ (23 + d) ≤ q → 2 ^ 23 ≤ closest q (2 ^ d)
kept_ge q d h =
    le_trans ((le-div_iff_mul-le (pow_pos d)).1 (le_trans (le_of_eq (sym (pow-add 2 23 d))) h)) (nearest-ge (q / 2 ^ d) (compare (q % 2 ^ d * 2) (2 ^ d)))

-- the number kept, k, and what `round` gives
abbrev pub Rounds : ℕ → ℕ → ℕ → ℕ → Type 0
Rounds q j d k = Kept (closest q (2 ^ d)) k × ((s : Bool) → round binary32 s (q * 2 ^ j) (2 ^ 1074) ≡ units binary32 s (closest q (2 ^ d)) k)

pub normal : (q j : ℕ) → 949 < size q + j → 24 ≤ size q → Rounds q j (size q - 24) (size q + j - 949)
normal q j h g =
    let z = size q in
    let up : size (q * 2 ^ (j + 149) / 2 ^ 1074) ≤ z + j - 925 = shifted_le q (j + 149) 1074 z (z + j - 925) (size-lt q) (omega arith) in
    let dn : z + j - 926 < size (q * 2 ^ (j + 149) / 2 ^ 1074) = shifted_gt q (j + 149) 1074 (z - 1) (z + j - 926) (size_reaches q (z - 1) (omega arith)) (omega arith) in
    let k : size (whole q j) - 24 ≡ z + j - 949 = ap (λ (n : ℕ). size n - 24) (whole_is q j) ∙ omega arith in
    let a : 24 + (z - 24) ≡ z = omega arith in
    let b : 23 + (z - 24) < z = omega arith in (
      (kept_le q (z - 24) (subst (λ (n : ℕ). q < 2 ^ n) (sym a) (size-lt q)), inr (kept_ge q (z - 24) (size_reaches q (23 + (z - 24)) b))),
      λ s. rounded s (q * 2 ^ j) q 1074 (z - 24) (z + j - 949) (same_fraction q j 149 (z - 24) 1074 (z + j - 949) (omega arith)) k,
    )

pub subnormal : (q j : ℕ) → size q + j ≤ 949 → j ≤ 925 → Rounds q j (925 - j) 0
subnormal q j h g =
    let up : size (q * 2 ^ (j + 149) / 2 ^ 1074) ≤ 24 = shifted_le q (j + 149) 1074 (size q) 24 (size-lt q) (omega arith) in
    let k : size (whole q j) - 24 ≡ 0 = ap (λ (n : ℕ). size n - 24) (whole_is q j) ∙ omega arith in
    let a : size q ≤ 24 + (925 - j) = omega arith in
    ((kept_le q (925 - j) (lt_of_lt_of_le (size-lt q) (pow_mono a)), inl refl), λ s. rounded s (q * 2 ^ j) q 1074 (925 - j) 0 (same_fraction q j 149 (925 - j) 1074 0 (omega arith)) k)

-- half of the smallest `f32`, or less, rounds to 0
pub vanishes : (q d : ℕ) → q < 2 ^ 53 → 54 ≤ d → closest q (2 ^ d) ≡ 0
vanishes q d h l =
    let p : 2 ^ 54 ≤ 2 ^ d = pow_mono l in
    le-zero (closest_mono q (2 ^ d) (2 ^ 53) (2 ^ 54) (pow_pos d) (pow_pos 54) (le_trans (mul-le-mul_right (2 ^ 54) (le_of_lt h)) (mul-le-mul_left (2 ^ 53) p)))

-- ---- the pattern: k * 2 ^ 23 and the number kept, or an infinity's

module _ (q j d k r : ℕ) (R : Rounds q j d k) (e : r ≡ closest q (2 ^ d)) where
  pub kept_small : r ≤ 2 ^ 24
  kept_small = subst (λ (n : ℕ). n ≤ 2 ^ 24) (sym e) R.0.0

  pub in_range : k * 2 ^ 23 + r < 255 * 2 ^ 23 → (s : Bool) → of_bits binary32 (cond s (2 ^ 31) 0 + (k * 2 ^ 23 + r)) ≡ round binary32 s (q * 2 ^ j) (2 ^ 1074)
  in_range h s =
      ap (λ (n : ℕ). of_bits binary32 (cond s (2 ^ 31) 0 + (k * 2 ^ 23 + n))) e
      ∙ packed s (closest q (2 ^ d)) k R.0 (subst (λ (n : ℕ). k * 2 ^ 23 + n < 255 * 2 ^ 23) e h)
      ∙ sym (R.1 s)

  pub out_of_range : 255 * 2 ^ 23 ≤ k * 2 ^ 23 + r → (s : Bool) → of_bits binary32 (cond s (2 ^ 31) 0 + 255 * 2 ^ 23) ≡ round binary32 s (q * 2 ^ j) (2 ^ 1074)
  out_of_range h s = infinite s ∙ sym (past s (closest q (2 ^ d)) k R.0 (subst (λ (n : ℕ). 255 * 2 ^ 23 ≤ k * 2 ^ 23 + n) e h)) ∙ sym (R.1 s)
