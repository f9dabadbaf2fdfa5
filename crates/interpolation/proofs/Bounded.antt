-- The four weights of a value within an accepted list of nodes are finite and at most 4 in size. t is a difference over one that is no smaller, so it lies from 0 to 1, and the cubics of t are bounded.
-- The outer cubics are scaled by the interval's width over a wider gap, which leaves their bounds from -1 to 1 as they are. The rest is sums. Assumes nothing.
use mathlib.Core.Path.{◌≡◌, refl, sym, subst}
use mathlib.Core.Bool.{Bool, true, false, cond}
use mathlib.Core.List.{List}
use Prim.Native.Nat.{ℕ, ◌+◌, ◌-◌, ◌*◌, ◌≤◌, ◌<◌}
use native.Mathlib.Nat.{le_trans, le_of_eq, le_refl, mul_comm, mul-le-mul_right}
use native.Mathlib.Omega.{arith}
use borrow.Author.Tests.{ltb-true}
use lib.Dec.{T, ltb}
use lib.ListN.{get_or, length}
use lib.Ieee.{Float, nan, neg, binary32, fits}
use Rattle.elementary.specs.Notation.{◌⊕◌, ◌⊖◌, ◌⊗◌, ◌⊘◌, lit}
use Rattle.units.specs.Units.{Number, one, plus}
use Rattle.units.proofs.Rounded.{Value}
use Rattle.units.proofs.Held.{Held, held_zero, held_one, held_2, held_3, held_4, plus_held}
use Rattle.units.proofs.Bounds.{In, in_wider, neg_opposite, neg_in, add_in, sub_in, mul_in, div_in}
use Rattle.units.proofs.Order.{at_most_le}
use Rattle.units.proofs.Literals.{value_in, zero_in, zero_value, one_value, two_value, three_value, four_value}
use Rattle.units.proofs.Distance.{distance, Gap, no_overflow, gap, gap_in, gap_grows, gap_pos, ratio}
use Rattle.interpolation.specs.Nodes.{nodes_ok}
use Rattle.interpolation.specs.Interval.{node_interval}
use Rattle.interpolation.specs.Weights.{first_part, last_part, four_at, within, catmull_rom_weights}
use Rattle.interpolation.specs.Laws.{Holds, Between, Bounded}
use Rattle.interpolation.specs.declared.weights.Four.{Four}
use Rattle.interpolation.specs.declared.weights.Weights.{Weights}
use Rattle.std.specs.Prelude.{Some}
use Rattle.interpolation.proofs.Reach.{answer}
use Rattle.interpolation.proofs.Accepted.{Accepted, accepted, Holding, T_finite, rising, node_gap, value_number, interval_holds}
use Rattle.interpolation.proofs.Hermite.{before, after, fall_in, rise_in, before_in, after_in}

-- ---- scaled parts. A bound is 0 or 1, chosen by a Bool

abbrev pub Part : Bool → Bool → Float → Type 0
Part l h p = In p (cond l one 0) (cond h one 0)

-- p times a width b over one that is no smaller
scaled : (l h : Bool) {p b c : Float} → Part l h p → In b 0 (plus b) → In c 0 (plus c) → 0 < plus c → plus b ≤ plus c → Part l h (p ⊗ b ⊘ c)
scaled l h {b = b} {c = c} P B C z g =
    div_in (mul_in P B (held l) (held h) (up l) (up h)) C z (one_or_zero l) (one_or_zero h) (down l) (down h)
  where
    one_or_zero : (k : Bool) → Held (cond k one 0)
    one_or_zero true = held_one
    one_or_zero false = held_zero

    held : (k : Bool) → Held (cond k (plus b) 0)
    held true = plus_held b B.number
    held false = held_zero

    up : (k : Bool) → cond k one 0 * plus b ≤ cond k (plus b) 0 * one
    up true = le_of_eq (mul_comm one (plus b))
    up false = omega arith

    down : (k : Bool) → cond k (plus b) 0 * one ≤ cond k one 0 * plus c
    down true = le_trans (mul-le-mul_right one g) (le_of_eq (mul_comm (plus c) one))
    down false = omega arith

module _ {nodes : List Float} (A : Accepted nodes) (i : ℕ) (inside : i + 2 ≤ length nodes) where
  abbrev node : ℕ → Float
  node k = get_or nodes k nan

  abbrev wide : Float
  wide = node (i + 1) ⊖ node i

  pub width : Gap (get_or nodes i nan) (get_or nodes (i + 1) nan)
  width = node_gap A i (i + 1) (omega arith) (omega arith)

  pub width_pos : 0 < plus (get_or nodes (i + 1) nan ⊖ get_or nodes i nan)
  width_pos = gap_pos width (A.step i (omega arith))

  -- a part times the width over a wider gap, which begins before the interval or ends after it
  over : (a b : Bool) {p : Float} (j l : ℕ) → Part a b p → j ≤ i → i + 1 ≤ l → l < length nodes → Part a b (p ⊗ wide ⊘ (node l ⊖ node j))
  over a b j l P h k m =
      let s = A.step i (omega arith) in
      let lo = rising A j i h (omega arith) in
      let hi = rising A (i + 1) l k m in
      let g = node_gap A j l (omega arith) m in
      scaled a b P (gap_in width) (gap_in g) (gap_pos g (omega arith)) (gap_grows width g (omega arith))

  pub first_part_lem : (a b : Bool) (t : Float) → Part a b (before t) → Part a b (first_part nodes i t)
  unfolding first_part
  first_part_lem a b t P = go (ltb 0 i)
    where
      go : (c : Bool) → Part a b (cond c (before t ⊗ wide ⊘ (node (i + 1) ⊖ node (i - 1))) (before t))
      go true = over a b (i - 1) (i + 1) P (omega arith) (omega arith) (omega arith)
      go false = P

  pub last_part_lem : (a b : Bool) (t : Float) → Part a b (after t) → Part a b (last_part nodes i t)
  unfolding last_part
  last_part_lem a b t P = go (ltb (i + 2) (length nodes)) refl
    where
      go : (c : Bool) → ltb (i + 2) (length nodes) ≡ c → Part a b (cond c (after t ⊗ wide ⊘ (node (i + 2) ⊖ node i)) (after t))
      go true e = over a b i (i + 2) P (omega arith) (omega arith) (ltb-true (i + 2) (length nodes) e)
      go false e = P

-- ---- the four, of a fall w, a rise r and two parts p and q

pub record FourIn (f : Four) : Type 0 where
  pub in0 : In f.w0 one one
  pub in1 : In f.w1 (3 * one) (3 * one)
  pub in2 : In f.w2 (2 * one) (4 * one)
  pub in3 : In f.w3 one 0

module _ {w r p q : Float} (W : In w (2 * one) one) (R : In r 0 (3 * one)) (P : In p one one) (Q : In q one 0) where
  in_0 : (b : Bool) → In (cond b (neg p) (lit 0)) one one
  in_0 true = neg_in P
  in_0 false = in_wider zero_in (omega arith) (omega arith)

  in_1 : (b : Bool) → In (cond b w (w ⊖ p) ⊖ q) (3 * one) (3 * one)
  in_1 b =
      let i = go b in
      sub_in i Q held_3 held_3 (omega arith) (omega arith)
    where
      go : (b : Bool) → In (cond b w (w ⊖ p)) (3 * one) (2 * one)
      go true = in_wider W (omega arith) (omega arith)
      go false = sub_in W P held_3 held_2 (omega arith) (omega arith)

  mid : In (r ⊕ p) one (4 * one)
  mid = add_in R P held_one held_4 (omega arith) (omega arith)

  in_2 : (c : Bool) → In (cond c (r ⊕ p) (r ⊕ p ⊕ q)) (2 * one) (4 * one)
  in_2 true = in_wider mid (omega arith) (le_refl (4 * one))
  in_2 false =
      let i = mid in
      add_in i Q held_2 held_4 (omega arith) (omega arith)

  in_3 : (c : Bool) → In (cond c q (lit 0)) one 0
  in_3 true = Q
  in_3 false = in_wider zero_in (omega arith) (le_refl 0)

  four : (b c : Bool) → FourIn (record { w0 = cond b (neg p) (lit 0); w1 = cond b w (w ⊖ p) ⊖ q; w2 = cond c (r ⊕ p) (r ⊕ p ⊕ q); w3 = cond c q (lit 0) })
  four b c = record { in0 = in_0 b; in1 = in_1 b; in2 = in_2 c; in3 = in_3 c }

-- ---- in any interval i that holds x

module _ {nodes : List Float} (A : Accepted nodes) {x : Float} (X : Number x) {i : ℕ} (I : Holding nodes x i) where
  abbrev start : Float
  start = get_or nodes i nan

  abbrev end : Float
  end = get_or nodes (i + 1) nan

  pub offset : Gap (get_or nodes i nan) x
  offset =
      let a = A.number i (omega arith) in
      let b = A.number (i + 1) (omega arith) in
      gap (distance start end) a X I.low (omega arith) (no_overflow a b (width A i I.in_list).is_finite)

  t_in : In ((x ⊖ start) ⊘ (end ⊖ start)) 0 one
  t_in =
      let w = width A i I.in_list in
      ratio (gap_in offset) (gap_in w).number (width_pos A i I.in_list) (gap_grows offset w (omega arith))

  interval_in : FourIn (four_at nodes x i)
  unfolding four_at
  interval_in =
      let t = (x ⊖ start) ⊘ (end ⊖ start) in
      four (fall_in t_in) (rise_in t_in) (first_part_lem A i I.in_list true true t (before_in t_in)) (last_part_lem A i I.in_list true false t (after_in t_in)) (ltb 0 i) (ltb (i + 2) (length nodes))

-- ---- in the interval that the search finds

-- bounds in units, as comparisons
from_to : {w : Float} {l h : ℕ} (a b : ℕ) → In w l h → Value (lit a) l 0 → Value (lit b) h 0 → Between (neg (lit a)) (lit b) w
from_to {w} {l} {h} a b W A B =
    let o = neg_opposite (lit a) in
    record {
      is_finite = T_finite w W.number.is_finite;
      from_low = at_most_le (neg_in (value_in a l 0 A)).number W.number (omega arith);
      to_high = at_most_le W.number (value_in b h 0 B).number (omega arith);
    }

module _ (nodes : List Float) (H : Holds nodes) (two : 2 ≤ length nodes) (ok : nodes_ok nodes ≡ true) (x : Float) (fx : T (fits binary32 x)) where
  -- in units
  pub weights_in : within nodes x ≡ true → FourIn (four_at nodes x (node_interval nodes x))
  weights_in inside = let A = accepted nodes H two ok in interval_in A (value_number A x fx inside) (interval_holds A x fx inside)

  pub weights_bounded : (v : Weights) → catmull_rom_weights nodes x ≡ Some v → Bounded v.four
  weights_bounded v e =
      let a = answer nodes x v e in
      let w = weights_in a.is_within in
      subst Bounded (sym a.four)
      (record {
        w0 = from_to 0x3f800000 0x3f800000 w.in0 one_value one_value;
        w1 = from_to 0x40400000 0x40400000 w.in1 three_value three_value;
        w2 = from_to 0x40000000 0x40800000 w.in2 two_value four_value;
        w3 = from_to 0x3f800000 0 w.in3 one_value zero_value;
      })
