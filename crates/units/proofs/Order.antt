-- Two finite binary32 values compare as their units: x < y is plus x + minus y < plus y + minus x (`lt_is`), and x = y and x ≤ y are the same with = and ≤ (`eq_is`, `le_is`).
-- `lt` and `eq` bring the two sizes to one divisor and compare the numerators; where the signs differ, 0 and their sum. Numerators over one divisor compare as the units do. Assumes nothing.
use mathlib.Core.Path.{◌≡◌, refl, sym, ap, ◌∙◌}
use mathlib.Core.Bool.{Bool, true, false, cond, ◌&&◌, ◌||◌}
use mathlib.Core.Logic.{◌⊎◌, inl, inr}
use Prim.Native.Nat.{ℕ, ◌+◌, ◌*◌, ◌≤◌, ◌<◌}
use native.Mathlib.Nat.{le_trans, le_of_eq, le_of_lt, le_antisymm, lt_of_not-le, not-le_of_lt, eq-or-lt_of_le, zero-add, add-zero, add_comm, add-mul, zero-mul, mul-pos, mul_comm, mul_assoc, mul_right_comm, mul-le-mul_right, le_of_mul-le-mul_right}
use native.Mathlib.Omega.{arith}
use borrow.Author.Tests.{ltb-true, leb-true, leb-false, eqb-true, lt-ltb, le-ltb, le-leb, lt-leb, eq-eqb, ne_eqb}
use lib.Dec.{T, ltb, leb, eqb, ltb→lt, lt→ltb, eqb→eq}
use lib.IntN.{ℤ}
use lib.Ieee.{Float, nan, inf, fin, binary32, up, down, below, level, lt, eq, le, fits}
use lib.Ieee.Fits.{down_pos, eq→eqb, and_i, and_l, and_r}
use Rattle.elementary.specs.Units.{mag}
use Rattle.elementary.proofs.Patterns.{le_or_lt}
use Rattle.units.specs.Units.{Number, one, plus, minus}
use Rattle.units.proofs.Rounded.{whole, ordered}
use Rattle.units.proofs.Held.{one_pos}

-- ---- tests

same_test : (b c : Bool) → (T b → T c) → (T c → T b) → b ≡ c
same_test true true h k = refl
same_test true false h k = absurd (h tt)
same_test false true h k = absurd (k tt)
same_test false false h k = refl

eqb_comm : (a b : ℕ) → eqb a b ≡ eqb b a
eqb_comm a b = same_test (eqb a b) (eqb b a) (λ t. eq→eqb (sym (eqb→eq a b t))) (λ t. eq→eqb (sym (eqb→eq b a t)))

and_true : (b : Bool) → (b && true) ≡ b
and_true true = refl
and_true false = refl

-- both are 0
zeros : (a b : ℕ) → (eqb a b && eqb a 0) ≡ eqb 0 (a + b)
zeros a b = same_test (eqb a b && eqb a 0) (eqb 0 (a + b)) forth (λ t. back (eqb→eq 0 (a + b) t))
  where
    forth : T (eqb a b && eqb a 0) → T (eqb 0 (a + b))
    forth t =
        let h = eqb→eq a b (and_l (eqb a b) (eqb a 0) t) in
        let k = eqb→eq a 0 (and_r (eqb a b) (eqb a 0) t) in
        let e : 0 ≡ a + b = omega arith in
        eq→eqb e

    back : 0 ≡ a + b → T (eqb a b && eqb a 0)
    back h =
        let e : a ≡ b = omega arith in
        let z : a ≡ 0 = omega arith in
        and_i (eqb a b) (eqb a 0) (eq→eqb e) (eq→eqb z)

leb_is : (p q : ℕ) → (ltb p q || eqb p q) ≡ leb p q
leb_is p q = elim (le_or_lt p q) [ inl h ↦ at_most_lem h (eq-or-lt_of_le h) | inr g ↦ rw (le-ltb p q (le_of_lt g), ne_eqb p q (λ e. apart g e), lt-leb p q g) ]
  where
    apart : q < p → p ≡ q → ⊥
    apart g e = omega arith

    at_most_lem : p ≤ q → (p ≡ q) ⊎ (p < q) → (ltb p q || eqb p q) ≡ leb p q
    at_most_lem h (inl e) = rw (le-ltb p q (le_of_eq (sym e)), eq-eqb p q e, le-leb p q h)
    at_most_lem h (inr l) = rw (lt-ltb p q l, le-leb p q h)

-- ---- a and b are x and y units, in parts of c

record Counts (c a x : ℕ) : Type 0 where
  is : a * one ≡ x * c

module _ {a b c x y : ℕ} (C : 0 < c) (A : Counts c a x) (B : Counts c b y) where
  forth : a ≤ b → x ≤ y
  forth h = ordered a b c x y C A.is B.is h

  back : x ≤ y → a ≤ b
  back h = le_of_mul-le-mul_right (le_trans (le_of_eq A.is) (le_trans (mul-le-mul_right c h) (le_of_eq (sym B.is)))) one_pos

module _ {a b c x y : ℕ} (C : 0 < c) (A : Counts c a x) (B : Counts c b y) where
  lt_same : ltb a b ≡ ltb x y
  lt_same =
      same_test (ltb a b) (ltb x y) (λ t. lt→ltb x y (lt_of_not-le (λ (k : y ≤ x). not-le_of_lt (ltb→lt a b t) (back C B A k))))
      (λ t. lt→ltb a b (lt_of_not-le (λ (k : b ≤ a). not-le_of_lt (ltb→lt x y t) (forth C B A k))))

  eq_same : eqb a b ≡ eqb x y
  eq_same =
      same_test (eqb a b) (eqb x y) (λ t. let h = eqb→eq a b t in eq→eqb (le_antisymm (forth C A B (le_of_eq h)) (forth C B A (le_of_eq (sym h)))))
      (λ t. let h = eqb→eq x y t in eq→eqb (le_antisymm (back C A B (le_of_eq h)) (back C B A (le_of_eq (sym h)))))

module _ {a b c x y : ℕ} (C : 0 < c) (A : Counts c a x) (B : Counts c b y) where
  none : Counts c 0 0
  none = record { is = zero-mul one ∙ sym (zero-mul c) }

  both : Counts c (a + b) (x + y)
  both = record { is = add-mul a b one ∙ cc (A.is, B.is) ∙ sym (add-mul x y c) }

  lt_signed : (s t : Bool) → below s a t b ≡ ltb (cond s 0 x + cond t y 0) (cond t 0 y + cond s x 0)
  lt_signed false false = rw (add-zero x, add-zero y) (lt_same C A B)
  lt_signed false true = sym (le-ltb (x + y) 0 (omega arith))
  lt_signed true false = rw (add_comm y x) (lt_same C none both)
  lt_signed true true = rw (zero-add x, zero-add y) (lt_same C B A)

  eq_signed : (s t : Bool) → level s a t b ≡ eqb (cond s 0 x + cond t y 0) (cond t 0 y + cond s x 0)
  eq_signed false false = rw (add-zero x, add-zero y) (and_true (eqb a b) ∙ eq_same C A B)
  eq_signed false true = zeros a b ∙ eq_same C none both ∙ eqb_comm 0 (x + y)
  eq_signed true false = rw (add_comm y x) (zeros a b ∙ eq_same C none both)
  eq_signed true true = rw (zero-add x, zero-add y) (and_true (eqb a b) ∙ eqb_comm a b ∙ eq_same C B A)

-- ---- two finite values

-- the size of m * 2 ^ e, in parts of the product of two divisors
left : (s : Bool) (m : ℕ) (e d : ℤ) → T (fits binary32 (fin s m e)) → Counts (down e * down d) (m * up e * down d) (mag (fin s m e))
left s m e d u = record { is = mul_right_comm (m * up e) (down d) one ∙ ap (λ (k : ℕ). k * down d) (whole s m e u) ∙ mul_assoc (mag (fin s m e)) (down e) (down d) }

right : (t : Bool) (n : ℕ) (e d : ℤ) → T (fits binary32 (fin t n d)) → Counts (down e * down d) (n * up d * down e) (mag (fin t n d))
right t n e d v = record { is = (left t n d e v).is ∙ ap (λ (k : ℕ). mag (fin t n d) * k) (mul_comm (down d) (down e)) }

pub lt_is : (x y : Float) → Number x → Number y → lt x y ≡ ltb (plus x + minus y) (plus y + minus x)
unfolding lt plus minus
lt_is nan y X Y = absurd X.is_finite
lt_is (inf s) y X Y = absurd X.is_finite
lt_is (fin s m e) nan X Y = absurd Y.is_finite
lt_is (fin s m e) (inf t) X Y = absurd Y.is_finite
lt_is (fin s m e) (fin t n d) X Y = lt_signed (mul-pos (down_pos e) (down_pos d)) (left s m e d X.holds) (right t n e d Y.holds) s t

pub eq_is : (x y : Float) → Number x → Number y → eq x y ≡ eqb (plus x + minus y) (plus y + minus x)
unfolding eq plus minus
eq_is nan y X Y = absurd X.is_finite
eq_is (inf s) y X Y = absurd X.is_finite
eq_is (fin s m e) nan X Y = absurd Y.is_finite
eq_is (fin s m e) (inf t) X Y = absurd Y.is_finite
eq_is (fin s m e) (fin t n d) X Y = eq_signed (mul-pos (down_pos e) (down_pos d)) (left s m e d X.holds) (right t n e d Y.holds) s t

pub le_is : (x y : Float) → Number x → Number y → le x y ≡ leb (plus x + minus y) (plus y + minus x)
unfolding le
le_is x y X Y = rw (lt_is x y X Y, eq_is x y X Y) (leb_is (plus x + minus y) (plus y + minus x))

-- ---- what the tests say, of two numbers

-- x ≤ y, and x < y
abbrev pub AtMost : Float → Float → Type 0
AtMost x y = plus x + minus y ≤ plus y + minus x

abbrev pub Under : Float → Float → Type 0
Under x y = plus x + minus y < plus y + minus x

module _ {x y : Float} (X : Number x) (Y : Number y) where
  pub lt_true : lt x y ≡ true → Under x y
  lt_true h = ltb-true (plus x + minus y) (plus y + minus x) (sym (lt_is x y X Y) ∙ h)

  pub le_true : le x y ≡ true → AtMost x y
  le_true h = leb-true (plus x + minus y) (plus y + minus x) (sym (le_is x y X Y) ∙ h)

  pub le_false : le x y ≡ false → Under y x
  le_false h = leb-false (plus x + minus y) (plus y + minus x) (sym (le_is x y X Y) ∙ h)

  pub at_most_le : AtMost x y → le x y ≡ true
  at_most_le h = le_is x y X Y ∙ le-leb (plus x + minus y) (plus y + minus x) h

  pub under_le : Under y x → le x y ≡ false
  under_le h = le_is x y X Y ∙ lt-leb (plus x + minus y) (plus y + minus x) h

  pub eq_true : eq x y ≡ true → plus x + minus y ≡ plus y + minus x
  eq_true h = eqb-true (plus x + minus y) (plus y + minus x) (sym (eq_is x y X Y) ∙ h)
