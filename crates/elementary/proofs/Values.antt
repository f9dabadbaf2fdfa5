-- A float by its value. Two values that a format holds are equal if they have the same pattern (`same_bits`), and so if they have the same sign and the same size (`unique`).
-- What an exponent's field and the digits below it are read as (`read_low`, `read_high`, `read_top`), and so what x is by the parts of its pattern (`at_zero`, `between`, `at_top`; `finite_units` for any finite x; `subnormal_at`, `normal_at` for one above zero).
-- `HasValue x s a c` says that x is finite, has the sign s and the size a / c.
-- Assumes nothing.
use Rattle.std.proofs.Common.{◌≡◌, ℕ, zero, suc, ◌+◌, ◌-◌, ◌*◌, ◌/◌, ◌%◌, ◌^◌, ◌<◌, ◌≤◌, Bool, true, false, cond, not, T, eqb, leb, ◌⊎◌, ℤ, sym, refl, ap, ◌∙◌, subst, inl, inr, true≢false, le_of_suc-le-suc, lt_irrefl, mod-lt, zero-lt-suc, mul_assoc, mul_comm, div-lt_iff_lt-mul, eq-or-lt_of_le, mul-pos, mul_right_comm, mul-div_cancel, arith, eqb→eq, pow_pos}
use lib.Dec.{eqb_refl, not_T}
use lib.Ieee.{Float, nan, inf, fin, Format, binary32, binary64, prec, emax, low, up, down, size, odd, fits, is_nan, ne, hid, ones, top, of_fields, of_bits, to_bits}
use lib.Ieee.Fits.{down_pos}
use lib.Ieee.Bits.{of_bits-to_bits, cond_no, is_true, is_false}
use lib.Ieee.Compare.{differs_from_itself}
use lib.Ieee.Exact.{HasValue, odd_sign}
use lib.Ieee.Positive.{positive}

-- ---- the pattern of a value, by its sign and its size in units of the format's smallest value

abbrev word : Format → Bool → ℕ → ℕ
word f s a = cond s (top f) 0 + (size a - prec f) * hid f + a / 2 ^ (size a - prec f)

word_of : (f : Format) (s : Bool) (m : ℕ) (e : ℤ) (a : ℕ) → m * up e * 2 ^ low f ≡ a * down e → to_bits f (fin s m e) ≡ word f s a
unfolding to_bits
word_of f s m e a h = ap (λ (n : ℕ). word f s n) (ap (λ (n : ℕ). n / down e) h ∙ mul-div_cancel a (down_pos e))

word_is : (f : Format) (x : Float) (s : Bool) (a : ℕ) → HasValue x s a (2 ^ low f) → to_bits f x ≡ word f s a
word_is f nan s a v = absurd v
word_is f (inf t) s a v = absurd v
word_is f (fin t m e) s a v = word_of f t m e a v.1 ∙ ap (λ (b : Bool). word f b a) v.0

pub same_bits : (f : Format) (x y : Float) → T (fits f x) → T (fits f y) → to_bits f x ≡ to_bits f y → x ≡ y
same_bits f x y F G e = sym (of_bits-to_bits f x F) ∙ ap (of_bits f) e ∙ of_bits-to_bits f y G

pub unique : (f : Format) (x y : Float) (s : Bool) (a : ℕ) → T (fits f x) → T (fits f y) → HasValue x s a (2 ^ low f) → HasValue y s a (2 ^ low f) → x ≡ y
unique f x y s a F G v w = same_bits f x y F G (word_is f x s a v ∙ sym (word_is f y s a w))

-- the same size as another fraction
pub scale_value : (x : Float) (s : Bool) (a c k : ℕ) → HasValue x s a c → HasValue x s (a * k) (c * k)
scale_value nan s a c k v = v
scale_value (inf t) s a c k v = v
scale_value (fin t m e) s a c k v = (v.0, sym (mul_assoc (m * up e) c k) ∙ ap (λ (n : ℕ). n * k) v.1 ∙ mul_right_comm a (down e) k)

-- ---- the fields of a pattern

pub read_low : (f : Format) (s : Bool) (t : ℕ) → HasValue (of_fields f s 0 t) s (t * 2 ^ 0) (2 ^ low f)
unfolding of_fields
read_low f s t = odd_sign (prec f) s t 0 (low f)

pub read_high : (f : Format) (s : Bool) (x t : ℕ) → suc x < ones f → HasValue (of_fields f s (suc x) t) s ((hid f + t) * 2 ^ x) (2 ^ low f)
unfolding of_fields
read_high f s x t h =
    subst (λ (v : Float). HasValue v s ((hid f + t) * 2 ^ x) (2 ^ low f))
    (sym (cond_no (eqb (suc x) (ones f)) (cond (eqb t 0) (inf s) nan) (odd (prec f) s (hid f + t) x (low f))
    (not_T (eqb (suc x) (ones f)) (λ u. lt_irrefl (ones f) (subst (λ (n : ℕ). n < ones f) (eqb→eq (suc x) (ones f) u) h)))))
    (odd_sign (prec f) s (hid f + t) x (low f))

pub read_top : (f : Format) (s : Bool) (x t : ℕ) → x ≡ ones f → of_fields f s x t ≡ cond (eqb t 0) (inf s) nan
unfolding of_fields
read_top f s zero t e = absurd (no (emax f) e)
  where
    no : (n : ℕ) → 0 ≡ 2 * n + 1 → ⊥
    no n h = omega arith
read_top f s (suc x) t e =
    ap (λ (b : Bool). cond b (cond (eqb t 0) (inf s) nan) (odd (prec f) s (hid f + t) x (low f))) (is_true (eqb (suc x) (ones f)) (subst (λ (n : ℕ). T (eqb (suc x) n)) e (eqb_refl (suc x))))

-- ---- x by the parts of its pattern

-- the test x != x, which only the NaN passes
pub is_nan_lem : (x : Float) → ne x x ≡ true → x ≡ nan
is_nan_lem x h = differs_from_itself x (subst T (sym h) tt)

pub equals_itself : (x : Float) → ne x x ≡ false → T (not (is_nan x))
unfolding ne is_nan
equals_itself nan h = absurd (true≢false h)
equals_itself (inf s) h = tt
equals_itself (fin s m e) h = tt

-- and the same by `is_nan`
pub told_nan : {b : Bool} (x : Float) → b ≡ is_nan x → b ≡ true → x ≡ nan
unfolding is_nan
told_nan nan e h = refl
told_nan (inf s) e h = absurd (true≢false (sym h ∙ e))
told_nan (fin s m t) e h = absurd (true≢false (sym h ∙ e))

pub told_number : {b : Bool} (x : Float) → b ≡ is_nan x → b ≡ false → T (not (is_nan x))
told_number x e h = subst (λ (b : Bool). T (not b)) (sym h ∙ e) tt

pub ne_itself : (x : Float) → ne x x ≡ is_nan x
unfolding is_nan
ne_itself x = told x (ne x x) refl
  where
    told : (x : Float) (b : Bool) → ne x x ≡ b → b ≡ is_nan x
    told x true h = ap is_nan (sym (is_nan_lem x h))
    told x false h = sym (is_false (is_nan x) (equals_itself x h))

of_bits_is : (f : Format) (b : ℕ) → of_bits f b ≡ of_fields f (leb (top f) b) (b % top f / hid f) (b % hid f)
unfolding of_bits
of_bits_is f b = refl

pub field_lt : (f : Format) (b : ℕ) → b % top f / hid f < suc (ones f)
field_lt f b =
    (div-lt_iff_lt-mul (pow_pos (prec f - 1))).1
    (subst (λ (n : ℕ). b % top f < n) (mul_comm (hid f) (suc (ones f))) (mod-lt b (mul-pos (pow_pos (prec f - 1)) (zero-lt-suc (ones f)))))

module _ (f : Format) (x : Float) (F : T (fits f x)) where
  abbrev pub pattern : ℕ
  pattern = to_bits f x

  abbrev pub negative : Bool
  negative = leb (top f) pattern

  abbrev pub field : ℕ
  field = pattern % top f / hid f

  abbrev pub digits : ℕ
  digits = pattern % hid f

  is : of_fields f negative field digits ≡ x
  is = sym (of_bits_is f pattern) ∙ of_bits-to_bits f x F

  pub at_top : field ≡ ones f → T (not (is_nan x)) → x ≡ inf negative
  unfolding is_nan
  at_top e n =
      let r : x ≡ cond (eqb digits 0) (inf negative) nan = sym is ∙ read_top f negative field digits e in
      r ∙ go (eqb digits 0) (subst (λ (v : Float). T (not (is_nan v))) r n)
    where
      go : (b : Bool) → T (not (is_nan (cond b (inf negative) nan))) → cond b (inf negative) nan ≡ inf negative
      go true k = refl
      go false k = absurd k

  pub at_zero : field ≡ 0 → HasValue x negative (digits * 2 ^ 0) (2 ^ low f)
  at_zero e = subst (λ (v : Float). HasValue v negative (digits * 2 ^ 0) (2 ^ low f)) (ap (λ (n : ℕ). of_fields f negative n digits) (sym e) ∙ is) (read_low f negative digits)

  pub between : (field ≡ 0 → ⊥) → (field ≡ ones f → ⊥) → HasValue x negative ((hid f + digits) * 2 ^ (field - 1)) (2 ^ low f)
  between z t =
      let l = field_lt f pattern in
      let p : suc (field - 1) ≡ field = omega arith in
      subst (λ (v : Float). HasValue v negative ((hid f + digits) * 2 ^ (field - 1)) (2 ^ low f)) (ap (λ (n : ℕ). of_fields f negative n digits) p ∙ is)
      (read_high f negative (field - 1) digits (omega arith))

-- ---- a finite x is q * 2 ^ j of the format's smallest values, with a q of no more digits than the format keeps

abbrev Units : Format → Bool → ℕ → ℤ → Type 0
Units f s m e = (q : ℕ) × (j : ℕ) × (q < 2 ^ prec f) × (prec f + j ≤ low f + suc (emax f)) × HasValue (fin s m e) s (q * 2 ^ j) (2 ^ low f)

digits_room : (f : Format) (t : ℕ) → t < hid f → hid f + t < 2 ^ prec f
digits_room binary32 t h = omega arith
digits_room binary64 t h = omega arith

field_room : (f : Format) (k : ℕ) → k < ones f → prec f + (k - 1) ≤ low f + suc (emax f)
field_room binary32 k h = omega arith
field_room binary64 k h = omega arith

pub finite_units : (f : Format) (s : Bool) (m : ℕ) (e : ℤ) → T (fits f (fin s m e)) → Units f s m e
finite_units f s m e F = go (field f x F) refl (eq-or-lt_of_le (le_of_suc-le-suc (field_lt f (pattern f x F))))
  where
    x : Float
    x = fin s m e

    t : ℕ
    t = digits f x F

    small : t < hid f
    small = mod-lt (pattern f x F) (pow_pos (prec f - 1))

    go : (k : ℕ) → field f x F ≡ k → (field f x F ≡ ones f) ⊎ (field f x F < ones f) → Units f s m e
    go k z (inl top) =
        let i : x ≡ inf (negative f x F) = at_top f x F top (unfold is_nan in tt) in
        let n : ◌≡◌ {A = ℕ} 0 1 = cc in
        absurd (omega arith)
    go zero z (inr l) = (t, 0, omega (arith, digits_room f t small), field_room f 0 (omega arith), (refl, (at_zero f x F z).1))
    go (suc k) z (inr l) =
        let v = between f x F (λ i. omega arith) (λ i. lt_irrefl (ones f) (subst (λ (n : ℕ). n < ones f) i l)) in
        (hid f + t, field f x F - 1, digits_room f t small, field_room f (field f x F) l, (refl, v.1))

-- ---- a finite x above zero: its pattern has no sign, and its field is not an infinity's

pub number : (x : Float) → T (positive x) → T (not (is_nan x))
unfolding is_nan
number nan p = absurd p
number (inf s) p = absurd p
number (fin s m e) p = tt

plus_sign : (x : Float) (s : Bool) (a c : ℕ) → T (positive x) → HasValue x s a c → s ≡ false
plus_sign nan s a c p v = absurd p
plus_sign (inf t) s a c p v = absurd p
plus_sign (fin true m e) s a c p v = absurd p
plus_sign (fin false m e) s a c p v = sym v.0

module _ (f : Format) (x : Float) (F : T (fits f x)) (p : T (positive x)) where
  unsigned : (a : ℕ) → HasValue x (negative f x F) a (2 ^ low f) → HasValue x false a (2 ^ low f)
  unsigned a v = subst (λ (s : Bool). HasValue x s a (2 ^ low f)) (plus_sign x (negative f x F) a (2 ^ low f) p v) v

  pub not_top : field f x F ≡ ones f → ⊥
  not_top e = subst (λ (v : Float). T (positive v)) (at_top f x F e (number x p)) p

  pub subnormal_at : field f x F ≡ 0 → HasValue x false (digits f x F * 2 ^ 0) (2 ^ low f)
  subnormal_at e = unsigned (digits f x F * 2 ^ 0) (at_zero f x F e)

  pub normal_at : (field f x F ≡ 0 → ⊥) → HasValue x false ((hid f + digits f x F) * 2 ^ (field f x F - 1)) (2 ^ low f)
  normal_at z = unsigned ((hid f + digits f x F) * 2 ^ (field f x F - 1)) (between f x F z not_top)

-- for the tests of the code
pub ruleset testing = (is_nan_lem, ne_itself, equals_itself)
