-- How `f32::from_bits` is read at a number k * 2 ^ 23 + q, with the sign's bit before it: as q * 2 ^ k of the format's smallest values (`packed`), or, from 255 * 2 ^ 23 on, where that is past the format's end, as an infinity (`past`).
-- q is 2 ^ 24 at most, and if k is not 0 it is 2 ^ 23 at least. Its leading digit adds one to the exponent's field, and at 2 ^ 24 the carry does it twice. Assumes nothing.
use Rattle.std.proofs.Common.{◌≡◌, ℕ, suc, ◌+◌, ◌-◌, ◌*◌, ◌/◌, ◌%◌, ◌^◌, ◌<◌, ◌≤◌, Bool, true, false, cond, not, T, ltb, leb, ◌⊎◌, sym, refl, ap, ◌∙◌, subst, inl, inr, le_trans, le_of_eq, lt_of_lt_of_le, lt_of_le_of_lt, mul-le-mul_right, mul_assoc, eq-or-lt_of_le, zero-add, not-le_of_lt, arith, lit<, lit≤, le→leb, ltb→lt, lt→ltb, leb→le, pow_mono, pow-add, shl_lt}
use Rattle.std.proofs.lemmas.Bool.{cases_lt}
use native.Mathlib.Nat.{pow-succ'}
use lib.Dec.{not_T}
use lib.Pow.{pow-lt}
use lib.Ieee.{Float, Format, nan, inf, fin, binary32, fits, odd, units, hid, ones, top, is_nan, of_fields, of_bits, nan_bits}
use lib.Ieee.Fits.{odd-fits, inf-fits}
use lib.Ieee.Bits.{of_bits-fits, cond_no, is_true, is_false, nan_bits_above, nan_bits_is}
use lib.Ieee.Exact.{HasValue, units_val}
use Rattle.elementary.proofs.Values.{unique, read_low, read_high, read_top}

pub le_or_lt : (a b : ℕ) → (a ≤ b) ⊎ (b < a)
le_or_lt a b = elim (cases_lt b a) [ inl h ↦ inr h | inr h ↦ inl h ]

-- ---- the three fields

same : {s s' : Bool} {x x' t t' : ℕ} → s ≡ s' → x ≡ x' → t ≡ t' → of_fields binary32 s x t ≡ of_fields binary32 s' x' t'
same p q r = λ i. of_fields binary32 (p i) (q i) (r i)

pub fields : (s : Bool) (x t : ℕ) → x < 256 → t < 2 ^ 23 → of_bits binary32 (cond s (2 ^ 31) 0 + (x * 2 ^ 23 + t)) ≡ of_fields binary32 s x t
unfolding of_bits
fields true x t X H =
    let n = 2 ^ 31 + (x * 2 ^ 23 + t) in
    let field : n % 2 ^ 31 / 2 ^ 23 ≡ x = omega arith in
    let digits : n % 2 ^ 23 ≡ t = omega arith in
    same (is_true (leb (2 ^ 31) n) (le→leb (2 ^ 31) n (omega arith))) field digits
fields false x t X H =
    let n = x * 2 ^ 23 + t in
    let under : 2 ^ 31 ≤ n → ⊥ = λ h. omega arith in
    let field : n % 2 ^ 31 / 2 ^ 23 ≡ x = omega arith in
    let digits : n % 2 ^ 23 ≡ t = omega arith in
    ap (of_bits binary32) (zero-add n) ∙ same (is_false (leb (2 ^ 31) n) (not_T (leb (2 ^ 31) n) (λ u. under (leb→le (2 ^ 31) n u)))) field digits

-- ---- the value

abbrev pub Kept : ℕ → ℕ → Type 0
Kept q k = (q ≤ 2 ^ 24) × ((k ≡ 0) ⊎ (2 ^ 23 ≤ q))

pub units_fits : (s : Bool) (q k : ℕ) → q ≤ 2 ^ 24 → T (fits binary32 (units binary32 s q k))
unfolding units
units_fits s q k h = go (ltb (q * 2 ^ k) (2 ^ 277)) (ltb→lt (q * 2 ^ k) (2 ^ 277))
  where
    go : (b : Bool) → (T b → q * 2 ^ k < 2 ^ 277) → T (fits binary32 (cond b (odd 25 s q k 149) (inf s)))
    go true l = odd-fits binary32 25 s q k (lt_of_le_of_lt h (lit< tt)) h (l tt)
    go false l = inf-fits binary32 s

module _ (q k : ℕ) (z : Kept q k) where
  below : k * 2 ^ 23 + q < 255 * 2 ^ 23 → q * 2 ^ k < 2 ^ 277
  below r = go (eq-or-lt_of_le z.0) z.1
    where
      go : (q ≡ 2 ^ 24) ⊎ (q < 2 ^ 24) → (k ≡ 0) ⊎ (2 ^ 23 ≤ q) → q * 2 ^ k < 2 ^ 277
      go (inl e) w =
          let h : 24 + k < 277 = omega arith in
          subst (λ (n : ℕ). n * 2 ^ k < 2 ^ 277) (sym e) (subst (λ (n : ℕ). n < 2 ^ 277) (pow-add 2 24 k) (pow-lt h))
      go (inr l) (inl e) =
          let h : 24 + k ≤ 277 = omega arith in
          lt_of_lt_of_le (shl_lt 24 k l) (pow_mono h)
      go (inr l) (inr g) =
          let h : 24 + k ≤ 277 = omega arith in
          lt_of_lt_of_le (shl_lt 24 k l) (pow_mono h)

  above : 255 * 2 ^ 23 ≤ k * 2 ^ 23 + q → 2 ^ 277 ≤ q * 2 ^ k
  above r = go (eq-or-lt_of_le z.0) z.1
    where
      scaled : (j : ℕ) → 2 ^ j ≤ q → 277 ≤ j + k → 2 ^ 277 ≤ q * 2 ^ k
      scaled j h l = le_trans (pow_mono l) (le_trans (le_of_eq (pow-add 2 j k)) (mul-le-mul_right (2 ^ k) h))

      go : (q ≡ 2 ^ 24) ⊎ (q < 2 ^ 24) → (k ≡ 0) ⊎ (2 ^ 23 ≤ q) → 2 ^ 277 ≤ q * 2 ^ k
      go (inl e) w = scaled 24 (le_of_eq (sym e)) (omega arith)
      go (inr l) (inl e) = absurd (omega arith)
      go (inr l) (inr g) = scaled 23 g (omega arith)

-- a field x and digits t whose pattern is k * 2 ^ 23 + q and whose value is q * 2 ^ k
abbrev Split : Bool → ℕ → ℕ → Type 0
Split s q k = (x : ℕ) × (t : ℕ) × (x < 255) × (t < 2 ^ 23) × (x * 2 ^ 23 + t ≡ k * 2 ^ 23 + q) × HasValue (of_fields binary32 s x t) s (q * 2 ^ k) (2 ^ 149)

module _ (s : Bool) (q k : ℕ) (r : k * 2 ^ 23 + q < 255 * 2 ^ 23) where
  split_low : q < 2 ^ 23 → k ≡ 0 → Split s q k
  split_low h e =
      (0, q, lit< tt, h, omega arith, subst (λ (j : ℕ). HasValue (of_fields binary32 s 0 q) s (q * 2 ^ j) (2 ^ 149)) (sym e) (read_low binary32 s q))

  split_mid : 2 ^ 23 ≤ q → q < 2 ^ 24 → Split s q k
  split_mid l h =
      let x : suc k < 255 = omega arith in
      let back : 2 ^ 23 + (q - 2 ^ 23) ≡ q = omega arith in
      (suc k, q - 2 ^ 23, x, omega arith, omega arith, subst (λ (n : ℕ). HasValue (of_fields binary32 s (suc k) (q - 2 ^ 23)) s (n * 2 ^ k) (2 ^ 149)) back (read_high binary32 s k (q - 2 ^ 23) x))

  split_end : q ≡ 2 ^ 24 → Split s q k
  split_end e =
      let x : suc (suc k) < 255 = omega arith in
      let v : 2 ^ 23 * 2 ^ suc k ≡ q * 2 ^ k = ap (λ (n : ℕ). 2 ^ 23 * n) (pow-succ' 2 k) ∙ sym (mul_assoc (2 ^ 23) 2 (2 ^ k)) ∙ ap (λ (n : ℕ). n * 2 ^ k) (sym e) in
      (suc (suc k), 0, x, lit< tt, omega arith, subst (λ (n : ℕ). HasValue (of_fields binary32 s (suc (suc k)) 0) s n (2 ^ 149)) v (read_high binary32 s (suc k) 0 x))

split : (s : Bool) (q k : ℕ) → Kept q k → k * 2 ^ 23 + q < 255 * 2 ^ 23 → Split s q k
split s q k z r = go (eq-or-lt_of_le z.0) z.1 (le_or_lt (2 ^ 23) q)
  where
    go : (q ≡ 2 ^ 24) ⊎ (q < 2 ^ 24) → (k ≡ 0) ⊎ (2 ^ 23 ≤ q) → (2 ^ 23 ≤ q) ⊎ (q < 2 ^ 23) → Split s q k
    go (inl e) z w = split_end s q k r e
    go (inr l) (inr g) w = split_mid s q k r g l
    go (inr l) (inl e) (inl g) = split_mid s q k r g l
    go (inr l) (inl e) (inr g) = split_low s q k r g e

pub packed : (s : Bool) (q k : ℕ) → Kept q k → k * 2 ^ 23 + q < 255 * 2 ^ 23 → of_bits binary32 (cond s (2 ^ 31) 0 + (k * 2 ^ 23 + q)) ≡ units binary32 s q k
packed s q k z r =
    let w = split s q k z r in
    ap (λ (n : ℕ). of_bits binary32 (cond s (2 ^ 31) 0 + n)) (sym w.4)
    ∙ fields s w.0 w.1 (lt_of_lt_of_le w.2 (lit≤ tt)) w.3
    ∙ unique binary32 (of_fields binary32 s w.0 w.1) (units binary32 s q k) s (q * 2 ^ k)
    (subst (λ (v : Float). T (fits binary32 v)) (fields s w.0 w.1 (lt_of_lt_of_le w.2 (lit≤ tt)) w.3) (of_bits-fits binary32 _))
    (units_fits s q k z.0)
    w.5
    (units_val binary32 s q k (below q k z r))

-- ---- past the format's end

pub past : (s : Bool) (q k : ℕ) → Kept q k → 255 * 2 ^ 23 ≤ k * 2 ^ 23 + q → units binary32 s q k ≡ inf s
unfolding units
past s q k z r = cond_no (ltb (q * 2 ^ k) (2 ^ 277)) (odd 25 s q k 149) (inf s) (not_T (ltb (q * 2 ^ k) (2 ^ 277)) (λ u. not-le_of_lt (ltb→lt (q * 2 ^ k) (2 ^ 277) u) (above q k z r)))

-- the pattern of an infinity
pub infinite : (s : Bool) → of_bits binary32 (cond s (2 ^ 31) 0 + 255 * 2 ^ 23) ≡ inf s
infinite s = fields s 255 0 (lit< tt) (lit< tt) ∙ read_top binary32 s 255 0 refl

-- ---- a NaN's pattern, without its sign, is above an infinity's

pub no_nan : (f : Format) (n : ℕ) → n % top f ≤ ones f * hid f → T (not (nan_bits f n))
no_nan f n h =
    subst (λ (b : Bool). T (not b)) (sym (nan_bits_above f n))
    (not_T (ltb (ones f * hid f) (n % top f)) (λ u. not-le_of_lt (ltb→lt (ones f * hid f) (n % top f) u) h))

only_nan : (x : Float) → T (is_nan x) → nan ≡ x
unfolding is_nan
only_nan nan t = refl
only_nan (inf s) t = absurd t
only_nan (fin s m e) t = absurd t

pub nan_above : (f : Format) (n : ℕ) → ones f * hid f < n % top f → nan ≡ of_bits f n
nan_above f n h = only_nan (of_bits f n) (subst T (sym (nan_bits_above f n) ∙ nan_bits_is f n) (lt→ltb (ones f * hid f) (n % top f) h))

-- for the code that reads patterns
pub ruleset patterns = (no_nan, nan_above)
