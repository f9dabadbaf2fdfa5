-- Check 6 of a list that a function of the index gives, by the sizes of its values in units: where they rise, none of them negative, and the last is at most a number that binary32 holds,
-- each value is below the next, and the last minus the first does not overflow (`rising_passes`). Assumes nothing.
use mathlib.Core.Path.{◌≡◌, refl, sym, ◌∙◌, subst}
use mathlib.Core.Bool.{Bool, true, false}
use Prim.Native.Nat.{ℕ, zero, suc, ◌+◌, ◌-◌, ◌*◌, ◌^◌, ◌≤◌, ◌<◌}
use native.Mathlib.Nat.{le_trans, le_of_eq, le_refl, le_of_lt, lt_of_le_of_lt, mul-one, sub-le}
use native.Mathlib.Omega.{arith}
use lib.Dec.{T}
use lib.Pow.{pow_pos}
use lib.ListN.{get_or}
use lib.Ieee.{Float, nan, inf, fin, binary32, lt}
use lib.Ieee.Exact.{HasValue}
use Rattle.elementary.specs.Notation.{◌⊖◌}
use Rattle.elementary.specs.Lists.{list_of}
use Rattle.elementary.proofs.Filled.{length_list_of, get_or_list_of}
use Rattle.interpolation.specs.Nodes.{finite, increasing, nodes_ok}
use Rattle.interpolation.proofs.Finite.{all_each, ok_is}
use Rattle.units.proofs.Near.{near_to}
use Rattle.units.proofs.Sizes.{unit, limit, InUnits, minus_at, within, lt_of_values}

finite_at : (x : Float) (s : Bool) (a c : ℕ) → HasValue x s a c → finite x ≡ true
unfolding finite
finite_at nan s a c v = absurd v
finite_at (inf t) s a c v = absurd v
finite_at (fin t m e) s a c v = refl

-- the first n values, by their sizes
pub record Rising (n : ℕ) (f : ℕ → Float) : Type 0 where
  pub size : ℕ → ℕ
  pub at : (k : ℕ) → k < n → InUnits binary32 (f k) false (size k)
  pub step : (k : ℕ) → k + 1 < n → size k < size (k + 1)
  -- the number that the last is at most
  pub digits : ℕ
  pub places : ℕ
  pub small : digits < 2 ^ 24
  pub held : digits * 2 ^ places < limit binary32
  pub top : size (n - 1) ≤ digits * 2 ^ places

module _ (n : ℕ) (f : ℕ → Float) (two : 2 ≤ n) (r : Rising n f) where
  abbrev node : ℕ → Float
  node k = get_or (list_of n f) k nan

  is : (k : ℕ) → k < n → node k ≡ f k
  is k l = get_or_list_of n f nan k l

  -- the first is at most any later one
  from_first : (k : ℕ) → k < n → r.size 0 ≤ r.size k
  from_first zero l = le_refl (r.size 0)
  from_first (suc k) l =
      let e : k + 1 ≡ suc k = omega arith in
      le_trans (from_first k (omega arith)) (le_of_lt (subst (λ (j : ℕ). r.size k < r.size j) e (r.step k (omega arith))))

  rises : (k : ℕ) → k + 1 < n → lt (node k) (node (k + 1)) ≡ true
  rises k h =
      let l : k < n = omega arith in
      rw (is k l, is (k + 1) h) (true_of (lt (f k) (f (k + 1))) (lt_of_values binary32 (f k) (f (k + 1)) (r.size k) (r.size (k + 1)) (r.at k l) (r.at (k + 1) h) (r.step k h)))
    where
      true_of : (b : Bool) → T b → b ≡ true
      true_of true t = refl
      true_of false t = absurd t

  span : finite (node (n - 1) ⊖ node 0) ≡ true
  span =
      let l : n - 1 < n = omega arith in
      let o : 0 < n = omega arith in
      let a : near_to 24 (r.size (n - 1) - r.size 0) 1 < limit binary32 = lt_of_le_of_lt (within binary32 (r.size (n - 1) - r.size 0) 1 r.digits r.places (pow_pos 0) r.small (le_trans (sub-le (r.size (n - 1)) (r.size 0)) (le_trans r.top (le_of_eq (sym (mul-one (r.digits * 2 ^ r.places))))))) r.held in
      rw (is (n - 1) l, is 0 o)
      (finite_at (f (n - 1) ⊖ f 0) false (near_to 24 (r.size (n - 1) - r.size 0) 1) (unit binary32)
      (minus_at binary32 (f (n - 1)) (f 0) (r.size (n - 1)) (r.size 0) (r.at (n - 1) l) (r.at 0 o) (from_first (n - 1) l) a))

  pub rising_passes : nodes_ok (list_of n f) ≡ true
  unfolding increasing
  rising_passes =
      let e = length_list_of n f in
      ok_is (list_of n f) (le_trans two (le_of_eq (sym e)))
      ∙ rw (e, all_each (λ k. lt (node k) (node (k + 1))) (n - 1) (λ k l. rises k (omega arith)), span) refl
