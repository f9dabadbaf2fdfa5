-- On a node one weight is 1 and the others are zeros. On a node but the last the search finds the interval that begins there: x - x0 has no units, so t is a zero, and the cubics at a zero are 1 and zeros.
-- On the last node it finds the interval that ends there: x - x0 and x1 - x0 have the same units, so t is 1, and the cubics at 1 are zeros and 1. A zero times the width over a gap is a zero. Assumes nothing.
use mathlib.Core.Path.{◌≡◌, refl, sym, ap, ◌∙◌}
use mathlib.Core.Bool.{Bool, true, false, cond, true≢false, false≢true}
use mathlib.Core.Logic.{◌⊎◌, inl, inr}
use mathlib.Core.List.{List}
use Prim.Native.Nat.{ℕ, zero, suc, ◌+◌, ◌-◌, ◌≤◌, ◌<◌}
use native.Mathlib.Nat.{le_of_eq}
use native.Mathlib.Omega.{arith}
use borrow.Author.Tests.{le-ltb}
use lib.Dec.{T, ltb}
use lib.IntN.{pos, ◌+ℤ◌}
use lib.ListN.{get_or, length}
use lib.Pow.{pow_pos}
use lib.Ieee.{Float, nan, inf, fin, binary32, fits, add, sub, mul, neg, le, eq, of_bits}
use lib.Ieee.Scale as Scale
use Rattle.elementary.specs.Notation.{◌⊕◌, ◌⊖◌, ◌⊘◌, lit}
use Rattle.elementary.proofs.Patterns.{le_or_lt}
use Rattle.units.specs.Units.{Number, plus, minus}
use Rattle.units.proofs.Near.{near, near_zero}
use Rattle.units.proofs.Held.{held_zero}
use Rattle.units.proofs.Bounds.{In, div_in}
use Rattle.units.proofs.Order.{at_most_le, eq_true}
use Rattle.units.proofs.Distance.{distance, gap_in}
use Rattle.units.proofs.Unique.{Zero, zero_of, in_zero, quotient_one}
use Rattle.interpolation.specs.Nodes.{nodes_ok}
use Rattle.interpolation.specs.Interval.{node_interval}
use Rattle.interpolation.specs.Weights.{first_part, last_part, four_at, weight_at, offset_of, within, catmull_rom_weights}
use Rattle.interpolation.specs.Laws.{Holds, LastInterval, OnNode}
use Rattle.interpolation.specs.declared.weights.Four.{Four}
use Rattle.interpolation.proofs.Accepted.{Accepted, accepted, Holding, rising, interval_holds, last_interval}
use Rattle.interpolation.proofs.Hermite.{fall, rise, before, after}
use Rattle.interpolation.proofs.Bounded.{width, width_pos, first_part_lem, last_part_lem, offset}

-- ---- zeros, by computation

zero_eq : {p : Float} → Zero p → eq p (lit 0) ≡ true
unfolding eq of_bits
zero_eq (inl e) = rw e refl
zero_eq (inr e) = rw e refl

neg_zero : {p : Float} → Zero p → Zero (neg p)
unfolding neg of_bits
neg_zero (inl e) = inr (rw e refl)
neg_zero (inr e) = inl (rw e refl)

add_zero : {p q : Float} → Zero p → Zero q → Zero (p ⊕ q)
unfolding add of_bits
add_zero (inl e) (inl f) = inl (rw (e, f) refl)
add_zero (inl e) (inr f) = inl (rw (e, f) refl)
add_zero (inr e) (inl f) = inl (rw (e, f) refl)
add_zero (inr e) (inr f) = inr (rw (e, f) refl)

sub_zero : {p q : Float} → Zero p → Zero q → Zero (p ⊖ q)
unfolding sub
sub_zero P Q = add_zero P (neg_zero Q)

one_add : {p : Float} → Zero p → lit 0x3f800000 ⊕ p ≡ lit 0x3f800000
unfolding add of_bits
one_add (inl e) = rw e refl
one_add (inr e) = rw e refl

one_sub : {p : Float} → Zero p → lit 0x3f800000 ⊖ p ≡ lit 0x3f800000
unfolding sub
one_sub P = one_add (neg_zero P)

-- ---- the cubics at a zero and at 1, by computation

cubics_0 : {t : Float} → Zero t → (fall t ≡ lit 0x3f800000) × Zero (rise t) × Zero (before t) × Zero (after t)
unfolding add sub mul neg of_bits
cubics_0 (inl e) = rw e (refl, inl refl, inl refl, inl refl)
cubics_0 (inr e) = rw e (refl, inl refl, inr refl, inr refl)

cubics_1 : {t : Float} → t ≡ lit 0x3f800000 → Zero (fall t) × (rise t ≡ lit 0x3f800000) × Zero (before t) × Zero (after t)
unfolding add sub mul neg of_bits
cubics_1 e = rw e (inl refl, refl, inl refl, inl refl)

-- ---- the four, of a fall w, a rise r and two parts p and q that are zeros

w0_zero : {p : Float} → Zero p → (b : Bool) → Zero (cond b (neg p) (lit 0))
w0_zero P true = neg_zero P
w0_zero P false = inl refl

w3_zero : {q : Float} → Zero q → (c : Bool) → Zero (cond c q (lit 0))
w3_zero Q true = Q
w3_zero Q false = inl refl

module _ {p q : Float} (P : Zero p) (Q : Zero q) where
  w1_one : {w : Float} (b : Bool) → w ≡ lit 0x3f800000 → cond b w (w ⊖ p) ⊖ q ≡ lit 0x3f800000
  w1_one true e = rw e (one_sub Q)
  w1_one false e = rw (e, one_sub P) (one_sub Q)

  w1_zero : {w : Float} (b : Bool) → Zero w → Zero (cond b w (w ⊖ p) ⊖ q)
  w1_zero true W = sub_zero W Q
  w1_zero false W = sub_zero (sub_zero W P) Q

  w2_one : {r : Float} (c : Bool) → r ≡ lit 0x3f800000 → cond c (r ⊕ p) (r ⊕ p ⊕ q) ≡ lit 0x3f800000
  w2_one true e = rw e (one_add P)
  w2_one false e = rw (e, one_add P) (one_add Q)

  w2_zero : {r : Float} (c : Bool) → Zero r → Zero (cond c (r ⊕ p) (r ⊕ p ⊕ q))
  w2_zero true R = add_zero R P
  w2_zero false R = add_zero (add_zero R P) Q

-- 1 at the place p, and zeros elsewhere
record OneAt (p : ℕ) (f : Four) : Type 0 where
  is_one : weight_at f p ≡ lit 0x3f800000
  is_zero : (q : ℕ) → q < 4 → (q ≡ p → ⊥) → Zero (weight_at f q)

-- ---- in the interval i

module _ {nodes : List Float} (A : Accepted nodes) (i : ℕ) (l : i + 2 ≤ length nodes) (x : Float) where
  abbrev t : Float
  t = (x ⊖ get_or nodes i nan) ⊘ (get_or nodes (i + 1) nan ⊖ get_or nodes i nan)

  module _ (X : Number x) (I : Holding nodes x i) where
    t_zero : distance (get_or nodes i nan) x ≡ 0 → Zero t
    t_zero d =
        let g = offset A X I in
        let none : plus (x ⊖ get_or nodes i nan) ≡ 0 = g.is_plus ∙ ap (λ (n : ℕ). near n 1) d ∙ near_zero 1 (pow_pos 0) in
        let z : In (x ⊖ get_or nodes i nan) 0 0 = record { number = (gap_in g).number; low = le_of_eq g.is_minus; high = le_of_eq none } in
        zero_of (div_in z (gap_in (width A i l)) (width_pos A i l) held_zero held_zero (omega arith) (omega arith))

    t_one : distance (get_or nodes i nan) x ≡ distance (get_or nodes i nan) (get_or nodes (i + 1) nan) → t ≡ lit 0x3f800000
    t_one d =
        let g = offset A X I in
        let w = width A i l in
        quotient_one (gap_in g) (gap_in w).number (width_pos A i l) (g.is_plus ∙ ap (λ (n : ℕ). near n 1) d ∙ sym w.is_plus)

  first_zero : Zero (before t) → Zero (first_part nodes i t)
  first_zero z = zero_of (first_part_lem A i l false false t (in_zero z))

  last_zero : Zero (after t) → Zero (last_part nodes i t)
  last_zero z = zero_of (last_part_lem A i l false false t (in_zero z))

  four_0 : Zero t → OneAt 1 (four_at nodes x i)
  unfolding four_at
  four_0 z =
      let at = cubics_0 z in
      let P = first_zero at.2 in
      let Q = last_zero at.3 in
      let b = ltb 0 i in
      let c = ltb (i + 2) (length nodes) in
      record { is_one = w1_one P Q b at.0; is_zero = go (four_at nodes x i) (w0_zero P b) (w2_zero P Q c at.1) (w3_zero Q c) }
    where
      go : (f : Four) → Zero f.w0 → Zero f.w2 → Zero f.w3 → (q : ℕ) → q < 4 → (q ≡ 1 → ⊥) → Zero (weight_at f q)
      go f a b c zero h n = a
      go f a b c (suc zero) h n = absurd (n refl)
      go f a b c (suc (suc zero)) h n = b
      go f a b c (suc (suc (suc q))) h n = c

  four_1 : t ≡ lit 0x3f800000 → OneAt 2 (four_at nodes x i)
  unfolding four_at
  four_1 e =
      let at = cubics_1 e in
      let P = first_zero at.2 in
      let Q = last_zero at.3 in
      let b = ltb 0 i in
      let c = ltb (i + 2) (length nodes) in
      record { is_one = w2_one P Q c at.1; is_zero = go (four_at nodes x i) (w0_zero P b) (w1_zero P Q b at.0) (w3_zero Q c) }
    where
      go : (f : Four) → Zero f.w0 → Zero f.w1 → Zero f.w3 → (q : ℕ) → q < 4 → (q ≡ 2 → ⊥) → Zero (weight_at f q)
      go f a b c zero h n = a
      go f a b c (suc zero) h n = b
      go f a b c (suc (suc zero)) h n = absurd (n refl)
      go f a b c (suc (suc (suc q))) h n = c

-- ---- an x that equals node k

offset_place : (i p k : ℕ) → i + p ≡ k + 1 → 0 < p → offset_of i +ℤ pos p ≡ pos k
unfolding offset_of
offset_place zero p k e g = rw (le-ltb p 1 g) (ap pos (omega arith))
offset_place (suc i) p k e g = ap pos (omega arith)

equal_finite : (x y : Float) → eq x y ≡ true → T (Scale.finite y) → T (Scale.finite x)
unfolding eq
equal_finite nan y h f = absurd (false≢true h)
equal_finite (inf s) nan h f = absurd f
equal_finite (inf s) (inf t) h f = absurd f
equal_finite (inf s) (fin t n d) h f = absurd (false≢true h)
equal_finite (fin s m e) y h f = tt

module _ {nodes : List Float} (A : Accepted nodes) (x : Float) (fx : T (fits binary32 x)) (k : ℕ) (l : k < length nodes) (h : eq x (get_or nodes k nan) ≡ true) where
  abbrev node : ℕ → Float
  node j = get_or nodes j nan

  abbrev i : ℕ
  i = node_interval nodes x

  X : Number x
  X = record { is_finite = equal_finite x (node k) h (A.number k l).is_finite; holds = fx }

  same : plus x + minus (node k) ≡ plus (node k) + minus x
  same = eq_true X (A.number k l) h

  below : le (node k) x ≡ true
  below = at_most_le (A.number k l) X (omega (arith, same))

  inside : within nodes x ≡ true
  unfolding within
  inside =
      let a = rising A 0 k (omega arith) l in
      let b = rising A k (length nodes - 1) (omega arith) (omega arith) in
      let first : le (node 0) x ≡ true = at_most_le (A.number 0 (omega arith)) X (omega (arith, same)) in
      let last : le x (node (length nodes - 1)) ≡ true = at_most_le X (A.number (length nodes - 1) (omega arith)) (omega (arith, same)) in
      rw (first, last)

  holding : Holding nodes x i
  holding = interval_holds A x fx inside

  found : LastInterval nodes x i
  found = last_interval A x fx inside

  -- on a node but the last the interval begins there, and on the last it ends there
  begins : k + 2 ≤ length nodes → i ≡ k
  begins m = go (le_or_lt i k) (le_or_lt k i)
    where
      not_later : i < k → ⊥
      not_later g = true≢false (sym below ∙ found.later k g m)

      not_before : k < i → ⊥
      not_before g =
          let in_list = found.in_list in
          let s = A.step k (omega arith) in
          let r = rising A (k + 1) i (omega arith) (omega arith) in
          let b = holding.low in
          omega (arith, same)

      go : (i ≤ k) ⊎ (k < i) → (k ≤ i) ⊎ (i < k) → i ≡ k
      go (inl a) (inl b) = omega arith
      go (inl a) (inr b) = absurd (not_later b)
      go (inr a) c = absurd (not_before a)

  ends : k + 1 ≡ length nodes → i + 2 ≡ length nodes
  ends e =
      let last : length nodes - 1 ≡ k = omega arith in
      found.at_last (rw last h)

  on_node_of : (p : ℕ) → i + p ≡ k + 1 → 0 < p → ((p ≡ 1) × (k + 2 ≤ length nodes)) ⊎ ((p ≡ 2) × (k + 1 ≡ length nodes)) → OneAt p (four_at nodes x i) → OnNode nodes x k
  unfolding catmull_rom_weights
  on_node_of p e g c o =
      record {
        offset = offset_of i;
        four = four_at nodes x i;
        place = p;
        answer = rw inside refl;
        node = offset_place i p k e g;
        which = c;
        is_one = o.is_one;
        rest = λ q m n. zero_eq (o.is_zero q m n);
      }

  pub on_node_at : OnNode nodes x k
  on_node_at = go (le_or_lt (k + 2) (length nodes))
    where
      go : (k + 2 ≤ length nodes) ⊎ (length nodes < k + 2) → OnNode nodes x k
      go (inl m) =
          let e = begins m in
          let d : distance (node i) x ≡ 0 = rw e (omega (arith, same)) in
          on_node_of 1 (omega arith) (omega arith) (inl (refl, m)) (four_0 A i found.in_list x (t_zero A i found.in_list x X holding d))
      go (inr m) =
          let last : k + 1 ≡ length nodes = omega arith in
          let e = ends last in
          let n : i + 1 ≡ k = omega arith in
          let d : distance (node i) x ≡ distance (node i) (node (i + 1)) = rw n (omega (arith, same)) in
          on_node_of 2 (omega arith) (omega arith) (inr (refl, last)) (four_1 A i found.in_list x (t_one A i found.in_list x X holding d))

pub on_node : (nodes : List Float) → Holds nodes → 2 ≤ length nodes → nodes_ok nodes ≡ true → (x : Float) → T (fits binary32 x) → (k : ℕ) → k < length nodes → eq x (get_or nodes k nan) ≡ true → OnNode nodes x k
on_node nodes H two ok x fx k l h = on_node_at (accepted nodes H two ok) x fx k l h
