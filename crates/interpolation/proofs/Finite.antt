-- Check 6 by what the code tests. The library's test of a finite value is the definition's (`finite_is`). Where each node is below the next, an inner node is finite, having a value below it and one above it,
-- and the two ends are where their difference is finite: so the first of the three tests follows from the others (`ok_is`). Assumes nothing.
use mathlib.Core.Path.{◌≡◌, refl, sym, ◌∙◌}
use mathlib.Core.Bool.{Bool, true, false, ◌&&◌, false≢true}
use mathlib.Core.Logic.{inl, inr}
use mathlib.Core.List.{List}
use Prim.Native.Nat.{ℕ, zero, suc, ◌+◌, ◌-◌, ◌≤◌, ◌<◌}
use native.Mathlib.Nat.{eq-or-lt_of_le}
use native.Mathlib.Numerals.{add-one}
use native.Mathlib.Omega.{arith}
use lib.ListN.{get_or, length}
use lib.Ieee.{Float, nan, inf, fin, lt, add, sub, neg}
use Rattle.std.specs.Float.{float_is_finite}
use Rattle.elementary.specs.Notation.{◌⊕◌, ◌⊖◌}
use Rattle.interpolation.specs.Nodes.{finite, all_below, all_finite, increasing, nodes_ok}

pub finite_is : (x : Float) → float_is_finite x ≡ finite x
unfolding finite float_is_finite
finite_is nan = refl
finite_is (inf s) = refl
finite_is (fin s m e) = refl

-- ---- each number below n passes, and back

pub and_left : (a b : Bool) → (a && b) ≡ true → a ≡ true
and_left true b h = refl
and_left false b h = absurd (false≢true h)

pub and_right : (a b : Bool) → (a && b) ≡ true → b ≡ true
and_right true b h = h
and_right false b h = absurd (false≢true h)

pub all_each : (p : ℕ → Bool) (n : ℕ) → ((k : ℕ) → k < n → p k ≡ true) → all_below n p ≡ true
unfolding all_below
all_each p zero h = refl
all_each p (suc n) h = rw (all_each p n (λ k l. h k (omega arith)), h n (omega arith))

pub each : (p : ℕ → Bool) (n k : ℕ) → all_below n p ≡ true → k < n → p k ≡ true
unfolding all_below
each p zero k h l = absurd (omega arith)
each p (suc n) k h l = elim (eq-or-lt_of_le (within l)) [ inl e ↦ rw e (and_right (all_below n p) (p n) h) | inr m ↦ each p n k (and_left (all_below n p) (p n) h) m ]
  where
    within : k < suc n → k ≤ n
    within l = omega arith

-- ---- what the order and a finite sum or difference say of a value

nan_right : (x : Float) → lt x nan ≡ false
unfolding lt
nan_right nan = refl
nan_right (inf s) = refl
nan_right (fin s m e) = refl

least : (x : Float) → lt x (inf true) ≡ false
unfolding lt
least nan = refl
least (inf true) = refl
least (inf false) = refl
least (fin s m e) = refl

most : (x : Float) → lt (inf false) x ≡ false
unfolding lt
most nan = refl
most (inf s) = refl
most (fin s m e) = refl

between : (x y z : Float) → lt x y ≡ true → lt y z ≡ true → finite y ≡ true
unfolding finite
between x nan z h k = absurd (false≢true (sym (nan_right x) ∙ h))
between x (inf true) z h k = absurd (false≢true (sym (least x) ∙ h))
between x (inf false) z h k = absurd (false≢true (sym (most z) ∙ k))
between x (fin s m e) z h k = refl

pub sum_ends : (x y : Float) → finite (x ⊕ y) ≡ true → (finite x ≡ true) × (finite y ≡ true)
unfolding finite add
sum_ends nan y h = absurd (false≢true h)
sum_ends (inf s) nan h = absurd (false≢true h)
sum_ends (inf true) (inf true) h = absurd (false≢true h)
sum_ends (inf true) (inf false) h = absurd (false≢true h)
sum_ends (inf false) (inf true) h = absurd (false≢true h)
sum_ends (inf false) (inf false) h = absurd (false≢true h)
sum_ends (inf s) (fin t n d) h = absurd (false≢true h)
sum_ends (fin s m e) nan h = absurd (false≢true h)
sum_ends (fin s m e) (inf t) h = absurd (false≢true h)
sum_ends (fin s m e) (fin t n d) h = (refl, refl)

finite_neg : (x : Float) → finite (neg x) ≡ finite x
unfolding finite neg
finite_neg nan = refl
finite_neg (inf s) = refl
finite_neg (fin s m e) = refl

ends : (x y : Float) → finite (x ⊖ y) ≡ true → (finite x ≡ true) × (finite y ≡ true)
unfolding sub
ends x y h = let both = sum_ends x (neg y) h in (both.0, sym (finite_neg y) ∙ both.1)

-- ---- the three tests

module _ (nodes : List Float) (two : 2 ≤ length nodes) where
  abbrev node : ℕ → Float
  node k = get_or nodes k nan

  abbrev last : ℕ
  last = length nodes - 1

  rises : increasing nodes ≡ true → (k : ℕ) → k < last → lt (node k) (node (k + 1)) ≡ true
  unfolding increasing
  rises h k l = each (λ j. lt (node j) (node (j + 1))) last k h l

  node_finite : increasing nodes ≡ true → finite (node last ⊖ node 0) ≡ true → (k : ℕ) → k < length nodes → finite (node k) ≡ true
  node_finite h f zero l = (ends (node last) (node 0) f).1
  node_finite h f (suc k) l = elim (eq-or-lt_of_le (at_most_lem l)) [
    | inl e ↦ rw e (ends (node last) (node 0) f).0
    | inr m ↦ between (node k) (node (suc k)) (node (suc k + 1)) (rw add-one at (rises h k (omega arith))) (rises h (suc k) m)
  ]
    where
      at_most_lem : suc k < length nodes → suc k ≤ last
      at_most_lem l = omega arith

  pub ok_is : nodes_ok nodes ≡ (increasing nodes && finite (node last ⊖ node 0))
  unfolding nodes_ok all_finite
  ok_is = go (all_finite nodes) (increasing nodes) (finite (node last ⊖ node 0)) (λ h f. all_each (λ k. finite (node k)) (length nodes) (node_finite h f))
    where
      go : (c a b : Bool) → (a ≡ true → b ≡ true → c ≡ true) → (c && a && b) ≡ (a && b)
      go true a b h = refl
      go false true true h = h refl refl
      go false true false h = refl
      go false false b h = refl

-- what the check tries at the goals of `nodes`
pub ruleset checking = (finite_is, ok_is)
