-- The search by a count. Where a test holds up to a place and fails from there on, the bisection ends at that place, and so many numbers pass: so `find_interval` is the count over all places but the last,
-- less 1 (`interval_counted`). On an accepted node list "at most x" is such a test for every x: a node below one that is at most x is at most x, and a NaN has none (`at_most_falls`). Assumes nothing.
use mathlib.Core.Path.{◌≡◌, refl, sym, ◌∙◌}
use mathlib.Core.Bool.{Bool, true, false, cond, false≢true, ◌&&◌}
use mathlib.Core.Logic.{inl, inr}
use mathlib.Core.List.{List}
use Prim.Native.Nat.{ℕ, zero, suc, ◌+◌, ◌-◌, ◌≤◌, ◌<◌, min}
use native.Mathlib.Nat.{add-zero, zero-add}
use native.Mathlib.Numerals.{add-one}
use native.Mathlib.Omega.{arith}
use lib.Dec.{T, eqb}
use lib.ListN.{length}
use lib.Ieee.{Float, nan, inf, fin, binary32, fits, le}
use Rattle.std.specs.List.{count_by, range_with_len}
use Rattle.std.proofs.lemmas.List.Sums.{sum_by-cons}
use Rattle.elementary.proofs.Patterns.{le_or_lt}
use Rattle.units.specs.Units.{Number}
use Rattle.units.proofs.Order.{AtMost, le_true, at_most_le}
use Rattle.interpolation.specs.Interval.{bisect, find_interval, at_most, node_interval}
use Rattle.interpolation.specs.Nodes.{all_below, rises, increasing, nodes_ok}
use Rattle.interpolation.specs.Laws.{Holds}
use Rattle.interpolation.proofs.Bisection.{Ends, bisect_ends}
use Rattle.interpolation.proofs.Accepted.{Accepted, accepted}

-- ---- over any test

-- how many numbers below n pass
unfoldable pub count : (ℕ → Bool) → ℕ → ℕ
count p zero = 0
count p (suc n) = count p n + cond (p n) 1 0

pub count_more : (p : ℕ → Bool) (n : ℕ) → count p (n + 1) ≡ count p n + cond (p n) 1 0
unfolding count
count_more p n = rw add-one

-- so many more pass below i + n than below i
count_more_by : (p : ℕ → Bool) (n i : ℕ) → count p (i + n) ≡ count p i + count_by p (range_with_len i n)
count_more_by p zero i = rw (add-zero i) (omega arith)
count_more_by p (suc n) i =
    let e : i + suc n ≡ i + 1 + n = omega arith in
    let cons = sum_by-cons (λ x. cond (p x) 1 0) i (range_with_len (i + 1) n) in
    rw (e, count_more_by p n (i + 1), count_more p i, cons) (omega arith)

pub count_eight : (p : ℕ → Bool) (i : ℕ) → count p (i + 8) ≡ count p i + count_by p (range_with_len i 8)
count_eight p i = count_more_by p 8 i

-- so many pass of the first n
pub count_all : (p : ℕ → Bool) (n : ℕ) → count p n ≡ count_by p (range_with_len 0 n)
unfolding count
count_all p n =
    let all = count_more_by p n 0 in
    rw (zero-add n, zero-add (count_by p (range_with_len 0 n))) at all

-- all pass exactly if so many do
count_le : (p : ℕ → Bool) (n : ℕ) → count p n ≤ n
unfolding count
count_le p zero = omega arith
count_le p (suc n) = let below = count_le p n in grind arith

one_more : (c n : ℕ) (b below : Bool) → c ≤ n → eqb c n ≡ below → eqb (c + cond b 1 0) (suc n) ≡ (below && b)
one_more c n b below l e = grind arith

all_counted : (p : ℕ → Bool) (n : ℕ) → eqb (count p n) n ≡ all_below n p
unfolding count all_below
all_counted p zero = refl
all_counted p (suc n) = one_more (count p n) n (p n) (all_below n p) (count_le p n) (all_counted p n)

-- once the test fails it fails on
abbrev pub Falls : (ℕ → Bool) → ℕ → Type 0
Falls p n = (k : ℕ) → k + 1 < n → p (k + 1) ≡ true → p k ≡ true

module _ (p : ℕ → Bool) (n : ℕ) (falls : Falls p n) where
  -- a number below one that passes passes
  downward : (d k : ℕ) → k + d < n → p (k + d) ≡ true → p k ≡ true
  downward zero k l h = rw (add-zero k) at h
  downward (suc d) k l h =
      let e : k + suc d ≡ k + d + 1 = omega arith in
      downward d k (omega arith) (falls (k + d) (omega arith) (rw e at h))

  -- where the bisection ends, every number below passes and no other
  passes : (r : ℕ) → Ends p n r → (k : ℕ) → k < r → p k ≡ true
  passes r e k l =
      let same : k + (r - 1 - k) ≡ r - 1 = omega arith in
      let bound = e.bound in
      downward (r - 1 - k) k (omega arith) (rw same (e.below (omega arith)))

  fails : (r : ℕ) → Ends p n r → (k : ℕ) → r ≤ k → k < n → p k ≡ false
  fails r e k h l = go (p k) refl
    where
      go : (b : Bool) → p k ≡ b → b ≡ false
      go false f = refl
      go true t =
          let same : r + (k - r) ≡ k = omega arith in
          absurd (false≢true (sym (e.above (omega arith)) ∙ downward (k - r) r (omega arith) (rw same t)))

  counted : (r : ℕ) → Ends p n r → (m : ℕ) → m ≤ n → count p m ≡ min r m
  unfolding count
  counted r e zero h = omega arith
  counted r e (suc m) h = elim (le_or_lt r m) [
    | inl l ↦ rw (counted r e m (omega arith), fails r e m l (omega arith)) (omega arith)
    | inr g ↦ rw (counted r e m (omega arith), passes r e m g) (omega arith)
  ]

  pub interval_counted : find_interval p n ≡ count p (n - 1) - 1
  unfolding find_interval
  interval_counted = let c = counted (bisect p n 0 n) (bisect_ends p n) (n - 1) (omega arith) in omega arith

-- ---- the nodes at most x

le_below : (a b x : Float) → Number a → Number b → T (fits binary32 x) → AtMost a b → le b x ≡ true → le a x ≡ true
unfolding le
le_below nan b x A B X o h = absurd A.is_finite
le_below (inf s) b x A B X o h = absurd A.is_finite
le_below (fin s m e) nan x A B X o h = absurd B.is_finite
le_below (fin s m e) (inf t) x A B X o h = absurd B.is_finite
le_below (fin s m e) (fin t n d) nan A B X o h = absurd (false≢true h)
le_below (fin s m e) (fin t n d) (inf true) A B X o h = absurd (false≢true h)
le_below (fin s m e) (fin t n d) (inf false) A B X o h = refl
le_below (fin s m e) (fin t n d) (fin u p c) A B X o h =
    let number : Number (fin u p c) = record { is_finite = tt; holds = X } in
    let k = le_true B number h in
    at_most_le A number (omega arith)

at_most_falls : (nodes : List Float) → Accepted nodes → (x : Float) → T (fits binary32 x) → Falls (at_most nodes x) (length nodes)
unfolding at_most
at_most_falls nodes A x fx k l h =
    let step = A.step k l in
    le_below _ _ x (A.number k (omega arith)) (A.number (k + 1) l) fx (omega arith) h

pub node_counted : (nodes : List Float) → Holds nodes → 2 ≤ length nodes → nodes_ok nodes ≡ true → (x : Float) → T (fits binary32 x)
    → node_interval nodes x ≡ count_by (at_most nodes x) (range_with_len 0 (length nodes - 1)) - 1
unfolding node_interval
node_counted nodes H two ok x fx = rw (← count_all (at_most nodes x) (length nodes - 1)) (interval_counted (at_most nodes x) (length nodes) (at_most_falls nodes (accepted nodes H two ok) x fx))

-- what the check tries at the goals of `interval`
pub ruleset counting = (node_counted)

-- the nodes increase exactly if each but the last is below the next
pub increasing_counted : (nodes : List Float) (c : ℕ) → c ≡ count_by (rises nodes) (range_with_len 0 (length nodes - 1)) → eqb c (length nodes - 1) ≡ increasing nodes
unfolding increasing
increasing_counted nodes c e = rw (e, ← count_all (rises nodes) (length nodes - 1)) (all_counted (rises nodes) (length nodes - 1))

-- the same of `nodes`
pub ruleset rising = (increasing_counted)
