-- What the checks say: each passed check gives its range, and where a call's number is 0 every check of it has passed. Assumes nothing.
use mathlib.Core.Path.{◌≡◌, sym, ◌∙◌}
use mathlib.Core.Bool.{Bool, true, ◌&&◌}
use mathlib.Core.List.{List}
use Prim.Native.Nat.{ℕ, ◌*◌, ◌≤◌}
use native.Mathlib.Nat.{mul-le-mul}
use native.Mathlib.Omega.{arith}
use borrow.Author.Tests.{leb-true, le-leb}
use lib.Dec.{leb, eqb, eqb→eq}
use lib.ListN.{length}
use lib.Ieee.{Float}
use Rattle.interpolation.specs.Nodes.{nodes_ok}
use Rattle.interpolation.specs.Checks.{max_rows, max_radii, max_allowance, check1, check2, check5, check6, check10}
use Rattle.answers.proofs.Refusals.{first_last, first_none, passed, refusals}
use Rattle.interpolation.specs.Own.{weights_number, integral_number, sizes_number, sample_number}
use Rattle.interpolation.proofs.Finite.{and_left, and_right}

-- ---- what a passed check says

range : (a b : Bool) → (a && b) ≡ true → (a ≡ true) × (b ≡ true)
range a b h = (and_left a b h, and_right a b h)

pub rows_in_range : (n : ℕ) → check1 n ≡ 0 → (2 ≤ n) × (n ≤ max_rows)
unfolding check1
rows_in_range n h = let r = range (leb 2 n) (leb n max_rows) (passed 1 _ (omega arith) h) in (leb-true 2 n r.0, leb-true n max_rows r.1)

pub radii_in_range : (m : ℕ) → check2 m ≡ 0 → (2 ≤ m) × (m ≤ max_radii)
unfolding check2
radii_in_range m h = let r = range (leb 2 m) (leb m max_radii) (passed 2 _ (omega arith) h) in (leb-true 2 m r.0, leb-true m max_radii r.1)

-- so their product is small
pub cells_small : {n m : ℕ} → n ≤ max_rows → m ≤ max_radii → n * m ≤ 8192
unfolding max_rows max_radii
cells_small a b = mul-le-mul a b

pub allowance_in_range : (a : ℕ) → check10 a ≡ 0 → (1 ≤ a) × (a ≤ max_allowance)
unfolding check10
allowance_in_range a h = let r = range (leb 1 a) (leb a max_allowance) (passed 10 _ (omega arith) h) in (leb-true 1 a r.0, leb-true a max_allowance r.1)

pub allowance_passes : (a : ℕ) → 1 ≤ a → a ≤ max_allowance → check10 a ≡ 0
unfolding check10
allowance_passes a l m = rw (le-leb 1 a l, le-leb a max_allowance m)

pub same_length : (l expected : ℕ) → check5 l expected ≡ 0 → l ≡ expected
unfolding check5
same_length l expected h = eqb→eq l expected (rw (passed 5 (eqb l expected) (omega arith) h) tt)

pub nodes_accepted : (nodes : List Float) → check6 nodes ≡ 0 → nodes_ok nodes ≡ true
unfolding check6
nodes_accepted nodes h = passed 6 (nodes_ok nodes) (omega arith) h

-- ---- what the number 0 says of each call

pub weights_rows : (nodes : List Float) → weights_number nodes ≡ 0 → (2 ≤ length nodes) × (length nodes ≤ max_rows)
unfolding weights_number
weights_rows nodes h = rows_in_range (length nodes) (first_none _ _ h).0

pub weights_accepted : (nodes : List Float) → weights_number nodes ≡ 0 → nodes_ok nodes ≡ true
unfolding weights_number
weights_accepted nodes h = nodes_accepted nodes (sym (first_last (check6 nodes)) ∙ (first_none _ _ h).1)

pub record Lengths (n values cdf : ℕ) : Type 0 where
  pub rows : (2 ≤ n) × (n ≤ max_rows)
  pub values_fit : values ≡ n
  pub cdf_fits : cdf ≡ n

pub integral_lengths : (x values : List Float) (cdf : ℕ) → integral_number x values cdf ≡ 0 → Lengths (length x) (length values) cdf
unfolding integral_number
integral_lengths x values cdf h =
    let a = first_none _ _ h in
    let b = first_none _ _ a.1 in
    let c = first_none _ _ b.1 in
    record { rows = rows_in_range _ a.0; values_fit = same_length _ _ b.0; cdf_fits = same_length _ _ c.0 }

pub record Sizes (n m values cdf : ℕ) : Type 0 where
  pub rows : (2 ≤ n) × (n ≤ max_rows)
  pub radii : (2 ≤ m) × (m ≤ max_radii)
  pub values_fit : values ≡ n * m
  pub cdf_fits : cdf ≡ n * m

pub sizes_fit : (n m values cdf : ℕ) → sizes_number n m values cdf ≡ 0 → Sizes n m values cdf
unfolding sizes_number
sizes_fit n m values cdf h =
    let a = first_none _ _ h in
    let b = first_none _ _ a.1 in
    let c = first_none _ _ b.1 in
    let d = first_none _ _ c.1 in
    record { rows = rows_in_range n a.0; radii = radii_in_range m b.0; values_fit = same_length _ _ c.0; cdf_fits = same_length _ _ d.0 }

pub sample_sizes : (nodes1 nodes2 values cdf : List Float) (u : Float) (allowance : ℕ) → sample_number nodes1 nodes2 values cdf u allowance ≡ 0
    → Sizes (length nodes1) (length nodes2) (length values) (length cdf)
unfolding sample_number
sample_sizes nodes1 nodes2 values cdf u allowance h = sizes_fit _ _ _ _ (first_none _ _ h).0

pub sample_accepted : (nodes1 nodes2 values cdf : List Float) (u : Float) (allowance : ℕ) → sample_number nodes1 nodes2 values cdf u allowance ≡ 0 → (nodes_ok nodes1 ≡ true) × (nodes_ok nodes2 ≡ true)
unfolding sample_number
sample_accepted nodes1 nodes2 values cdf u allowance h =
    let a = first_none _ _ h in
    let b = first_none (check6 nodes1) _ a.1 in
    (nodes_accepted nodes1 b.0, nodes_accepted nodes2 (first_none (check6 nodes2) _ b.1).0)

-- ---- a chain of checks

-- what the checks passed so far say of those to come: both sizes are small, and a list has its two nodes
pub two_rows : (n : ℕ) → check1 n ≡ 0 → 2 ≤ n
two_rows n h = (rows_in_range n h).0

pub cells_fit : (n m : ℕ) → check1 n ≡ 0 → check2 m ≡ 0 → n * m ≤ 8192
cells_fit n m h k = cells_small (rows_in_range n h).1 (radii_in_range m k).1

pub two_sized : (n m values cdf : ℕ) → sizes_number n m values cdf ≡ 0 → (2 ≤ n) × (2 ≤ m)
two_sized n m values cdf h = let s = sizes_fit n m values cdf h in (s.rows.0, s.radii.0)

-- what the prover takes for the numbers of the calls and the answers by them
pub ruleset numbering = (refusals, two_rows, cells_fit, two_sized, weights_rows, weights_accepted, integral_lengths, sample_sizes, sample_accepted)
