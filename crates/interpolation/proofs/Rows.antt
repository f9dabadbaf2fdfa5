-- The rows that a blend reads. The row of weight k in the interval i is i + k - 1 (`row_is`), and lies within the table where its weight is not zero, since its node exists (`in_table`).
-- So a blend depends on those rows alone: tables that agree there give the same blend (`interpolate_same`). Assumes nothing.
use mathlib.Core.Path.{◌≡◌, refl, ap, ◌∙◌}
use mathlib.Core.Bool.{Bool, true, false, cond}
use mathlib.Core.List.{List}
use Prim.Native.Nat.{ℕ, zero, suc, ◌+◌, ◌-◌, ◌*◌, ◌≤◌, ◌<◌}
use native.Mathlib.Nat.{mul-le-mul_right}
use native.Mathlib.Omega.{arith}
use lib.IntN.{ℤ}
use lib.ListN.{get_or, length}
use lib.Ieee.{Float, nan, eq, of_bits}
use Rattle.elementary.specs.Notation.{◌⊕◌, ◌⊗◌, lit}
use Rattle.interpolation.specs.Interval.{node_interval}
use Rattle.interpolation.specs.Weights.{offset_of, four_at, over_four}
use Rattle.interpolation.specs.Laws.{Reach, Agree}
use Rattle.interpolation.specs.Blend.{row_of, add_row, interpolate, InTable, blend_at_most, blend_interval}
use Rattle.interpolation.specs.declared.weights.Four.{Four}
use Rattle.interpolation.proofs.Bisection.{interval_bound, node_bound}
use Rattle.interpolation.proofs.Reach.{reach}

-- four steps, one after the other
pub in_turn : {V : Type 0} (step : ℕ → V → V) (z : V) {v0 v1 v2 v3 : V} → v0 ≡ step 0 z → v1 ≡ step 1 v0 → v2 ≡ step 2 v1 → v3 ≡ step 3 v2 → v3 ≡ over_four step z
in_turn step z p q r s = s ∙ ap (step 3) (r ∙ ap (step 2) (q ∙ ap (step 1) p))

pub row_is : (i k : ℕ) → row_of (offset_of i) k ≡ i + k - 1
unfolding row_of offset_of
row_is zero k = omega arith
row_is (suc i) k = omega arith

pub in_table : (table : List Float) (n m i : ℕ) (f : Four) → Reach f i n → length table ≡ n * m → InTable table m i f
in_table table n m i f r e =
    record {
      first = r.first;
      inside = let l = mul-le-mul_right m r.inside in omega arith;
      last = λ w. let l = mul-le-mul_right m (r.last w) in omega arith;
    }

-- so it is with the weights of a value in the interval that the search finds
pub found_in_table : (nodes table : List Float) (x : Float) (m i : ℕ) (f : Four) → i ≡ node_interval nodes x → f ≡ four_at nodes x i → 2 ≤ length nodes → length table ≡ length nodes * m
    → InTable table m i f
found_in_table nodes table x m i f j g two e =
    let inside : i + 2 ≤ length nodes = omega (arith, node_bound nodes x) in
    rw g (in_table table (length nodes) m i (four_at nodes x i) (reach nodes x i inside) e)

-- the interval of the blended columns is one of those between neighbours
pub blend_bound : (cdf : List Float) (m : ℕ) (o : ℤ) (f : Four) (u : Float) → blend_interval cdf m o f u ≤ m - 2
unfolding blend_interval
blend_bound cdf m o f u = interval_bound (blend_at_most cdf m o f u) m

-- a weight of either zero leaves the value as it is
pub zero_weight : (table : List Float) (m row col : ℕ) (w value : Float) → eq w (lit 0) ≡ true → add_row table m row col w value ≡ value
unfolding add_row
zero_weight table m row col w value h = rw h

pub minus_zero : eq (lit 0x80000000) (lit 0) ≡ true
unfolding eq of_bits
minus_zero = refl

-- ---- two tables that agree on the rows of nonzero weight

add_row_same : (a b : List Float) (m row col : ℕ) (w value : Float) → (eq w (lit 0) ≡ false → get_or a (row * m + col) nan ≡ get_or b (row * m + col) nan) → add_row a m row col w value ≡ add_row b m row col w value
unfolding add_row
add_row_same a b m row col w value h = go (eq w (lit 0)) h
  where
    go : (z : Bool) → (z ≡ false → get_or a (row * m + col) nan ≡ get_or b (row * m + col) nan) → cond z value (value ⊕ get_or a (row * m + col) nan ⊗ w) ≡ cond z value (value ⊕ get_or b (row * m + col) nan ⊗ w)
    go true h = refl
    go false h = rw (h refl)

pub interpolate_same : (a b : List Float) (m : ℕ) (o : ℤ) (f : Four) (col : ℕ) → Agree a b m o f → col < m → interpolate a m o f col ≡ interpolate b m o f col
unfolding interpolate
interpolate_same a b m o f col g l =
    rw (
      add_row_same a b m (row_of o 0) col f.w0 (lit 0) (g.at 0 col (omega arith) l),
      add_row_same a b m (row_of o 1) col f.w1 _ (g.at 1 col (omega arith) l),
      add_row_same a b m (row_of o 2) col f.w2 _ (g.at 2 col (omega arith) l),
      add_row_same a b m (row_of o 3) col f.w3 _ (g.at 3 col (omega arith) l),
    )

-- what the prover takes for the blends and the draws
pub ruleset reading = (row_is, node_bound, blend_bound)
