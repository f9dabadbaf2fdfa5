-- A list of nodes that check 6 accepts, in units: each node is a number, each is below the next, and no difference of two nodes overflows, since none exceeds that of the last and the first.
-- So a value within the list lies in the interval that the search finds, and that is the last interval whose left node is at or below the value (`interval_last`). Assumes nothing.
use mathlib.Core.Path.{◌≡◌, refl}
use mathlib.Core.Bool.{Bool, true, false, cond, ◌&&◌, false≢true}
use mathlib.Core.Logic.{inl, inr}
use mathlib.Core.List.{List}
use Prim.Native.Nat.{ℕ, zero, suc, ◌+◌, ◌-◌, ◌≤◌, ◌<◌}
use native.Mathlib.Nat.{add-zero}
use native.Mathlib.Omega.{arith}
use lib.Dec.{T}
use lib.ListN.{get_or, length}
use lib.Ieee.{Float, nan, inf, fin, binary32, fits, lt, le}
use lib.Ieee.Scale as Scale
use Rattle.elementary.specs.Notation.{◌⊖◌}
use Rattle.units.specs.Units.{Number}
use Rattle.units.proofs.Near.{near}
use Rattle.units.proofs.Rounded.{cap}
use Rattle.units.proofs.Order.{AtMost, Under, lt_true, le_true, le_false, at_most_le, under_le, eq_true}
use Rattle.units.proofs.Distance.{distance, no_overflow, Gap, gap}
use Rattle.interpolation.specs.Nodes.{finite, all_finite, increasing, nodes_ok}
use Rattle.interpolation.specs.Interval.{at_most, node_interval}
use Rattle.interpolation.specs.Weights.{within}
use Rattle.interpolation.specs.Laws.{Holds, LastInterval}
use Rattle.interpolation.proofs.Finite.{and_left, and_right, each}
use Rattle.interpolation.proofs.Bisection.{Found, interval_found}

-- ---- what the tests say

pub finite_T : (x : Float) → finite x ≡ true → T (Scale.finite x)
unfolding finite
finite_T nan h = absurd (false≢true h)
finite_T (inf s) h = absurd (false≢true h)
finite_T (fin s m e) h = tt

pub T_finite : (x : Float) → T (Scale.finite x) → finite x ≡ true
unfolding finite
T_finite nan h = absurd h
T_finite (inf s) h = absurd h
T_finite (fin s m e) h = refl

-- what lies between two finite values is finite
between : (a x b : Float) → T (Scale.finite a) → T (Scale.finite b) → le a x ≡ true → le x b ≡ true → T (Scale.finite x)
unfolding le
between nan x b A B h k = absurd A
between (inf s) x b A B h k = absurd A
between (fin s m e) nan b A B h k = absurd (false≢true h)
between (fin s m e) (fin t n d) b A B h k = tt
between (fin s m e) (inf true) b A B h k = absurd (false≢true h)
between (fin s m e) (inf false) nan A B h k = absurd B
between (fin s m e) (inf false) (inf u) A B h k = absurd B
between (fin s m e) (inf false) (fin u p c) A B h k = absurd (false≢true k)

-- ---- an accepted list

pub record Accepted (nodes : List Float) : Type 0 where
  pub two : 2 ≤ length nodes
  pub number : (k : ℕ) → k < length nodes → Number (get_or nodes k nan)
  pub step : (k : ℕ) → k + 1 < length nodes → Under (get_or nodes k nan) (get_or nodes (k + 1) nan)
  pub span : near (distance (get_or nodes 0 nan) (get_or nodes (length nodes - 1) nan)) 1 < cap

pub accepted : (nodes : List Float) → Holds nodes → 2 ≤ length nodes → nodes_ok nodes ≡ true → Accepted nodes
unfolding nodes_ok all_finite increasing
accepted nodes H two ok =
    let node : ℕ → Float = λ k. get_or nodes k nan in
    let last = length nodes - 1 in
    let both = and_left (all_finite nodes && increasing nodes) (finite (node last ⊖ node 0)) ok in
    let spans = and_right (all_finite nodes && increasing nodes) (finite (node last ⊖ node 0)) ok in
    let all = and_left (all_finite nodes) (increasing nodes) both in
    let rises = and_right (all_finite nodes) (increasing nodes) both in
    let n : (k : ℕ) → k < length nodes → Number (get_or nodes k nan) = λ k l. record { is_finite = finite_T (node k) (each (λ j. finite (node j)) (length nodes) k all l); holds = H k } in
    record {
      two = two;
      number = n;
      step = λ k l. lt_true (n k (omega arith)) (n (k + 1) l) (each (λ j. lt (node j) (node (j + 1))) last k rises (omega arith));
      span = no_overflow (n 0 (omega arith)) (n last (omega arith)) (finite_T (node last ⊖ node 0) spans);
    }

-- the interval i lies within the list, and x within the interval
pub record Holding (nodes : List Float) (x : Float) (i : ℕ) : Type 0 where
  pub in_list : i + 2 ≤ length nodes
  pub low : AtMost (get_or nodes i nan) x
  pub high : AtMost x (get_or nodes (i + 1) nan)

module _ {nodes : List Float} (A : Accepted nodes) where
  abbrev node : ℕ → Float
  node k = get_or nodes k nan

  upward : (i d : ℕ) → i + d < length nodes → AtMost (node i) (node (i + d))
  upward i zero l = rw (add-zero i) (omega arith)
  upward i (suc d) l =
      let e : i + suc d ≡ i + d + 1 = omega arith in
      let a = upward i d (omega arith) in
      let b = A.step (i + d) (omega arith) in
      rw e (omega arith)

  pub rising : (i j : ℕ) → i ≤ j → j < length nodes → AtMost (get_or nodes i nan) (get_or nodes j nan)
  rising i j h l =
      let e : i + (j - i) ≡ j = omega arith in
      rw e at (upward i (j - i) (omega arith))

  -- the difference of any two nodes is at most that of the last and the first
  pub node_gap : (i j : ℕ) → i ≤ j → j < length nodes → Gap (get_or nodes i nan) (get_or nodes j nan)
  node_gap i j h l =
      let n = length nodes - 1 in
      let two = A.two in
      let a = rising i j h l in
      let b = rising 0 i (omega arith) (omega arith) in
      let c = rising j n (omega arith) (omega arith) in
      gap (distance (node 0) (node n)) (A.number i (omega arith)) (A.number j l) a (omega arith) A.span

  -- ---- a value within it
  module _ (x : Float) (fx : T (fits binary32 x)) (inside : within nodes x ≡ true) where
    from_first : le (node 0) x ≡ true
    unfolding within
    from_first = go (le (node 0) x) (le x (node (length nodes - 1))) inside
      where
        go : (a b : Bool) → cond a b false ≡ true → a ≡ true
        go true b h = refl
        go false b h = absurd (false≢true h)

    to_last : le x (node (length nodes - 1)) ≡ true
    unfolding within
    to_last = go (le (node 0) x) (le x (node (length nodes - 1))) inside
      where
        go : (a b : Bool) → cond a b false ≡ true → b ≡ true
        go true b h = h
        go false b h = absurd (false≢true h)

    pub value_number : Number x
    value_number =
        let two = A.two in
        let first = A.number 0 (omega arith) in
        let last = A.number (length nodes - 1) (omega arith) in
        record { is_finite = between (node 0) x (node (length nodes - 1)) first.is_finite last.is_finite from_first to_last; holds = fx }

    found : Found (at_most nodes x) (length nodes) (node_interval nodes x)
    unfolding node_interval at_most
    found = interval_found (at_most nodes x) (length nodes) A.two from_first

    holding : (i : ℕ) → Found (at_most nodes x) (length nodes) i → Holding nodes x i
    unfolding at_most
    holding i (l, inl (a, b)) =
        let h = le_false (A.number (i + 1) (omega arith)) value_number b in
        record { in_list = l; low = le_true (A.number i (omega arith)) value_number a; high = omega arith }
    holding i (l, inr (e, a)) =
        let last : length nodes - 1 ≡ i + 1 = omega arith in
        let s = A.step i (omega arith) in
        let n = A.number (i + 1) (omega arith) in
        let h = le_true n value_number a in
        record { in_list = l; low = omega arith; high = le_true value_number n (rw last at to_last) }

    pub interval_holds : Holding nodes x (node_interval nodes x)
    interval_holds = holding (node_interval nodes x) found

    last_of : (i : ℕ) → Found (at_most nodes x) (length nodes) i → LastInterval nodes x i
    unfolding at_most
    last_of i (l, inl (a, b)) =
        let next = A.number (i + 1) (omega arith) in
        let above = le_false next value_number b in
        let end = A.number (length nodes - 1) (omega arith) in
        record {
          in_list = l;
          at_or_below = a;
          later = λ j h g. let r = rising (i + 1) j (omega arith) (omega arith) in under_le (A.number j (omega arith)) value_number (omega arith);
          at_last = λ e.
              let r = rising (i + 1) (length nodes - 1) (omega arith) (omega arith) in
              let same = eq_true value_number end e in
              absurd (omega arith);
        }
    last_of i (l, inr (e, a)) =
        let h = holding i (l, inr (e, a)) in
        record {
          in_list = l;
          at_or_below = at_most_le (A.number i (omega arith)) value_number h.low;
          later = λ j h g. absurd (omega arith);
          at_last = λ _. e;
        }

    pub last_interval : LastInterval nodes x (node_interval nodes x)
    last_interval = last_of (node_interval nodes x) found

pub interval_last : (nodes : List Float) → Holds nodes → 2 ≤ length nodes → nodes_ok nodes ≡ true → (x : Float) → T (fits binary32 x) → within nodes x ≡ true
    → LastInterval nodes x (node_interval nodes x)
interval_last nodes H two ok x fx inside = last_interval (accepted nodes H two ok) x fx inside
