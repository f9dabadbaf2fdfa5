-- What the weights of a value among nodes reach: their rows, counted from 1, and the places of these in a table. Assumes nothing.
use mathlib.Core.Path.{◌≡◌}
use Prim.Native.Nat.{ℕ, ◌+◌, ◌*◌, ◌≤◌}
use native.Mathlib.Nat.{le_trans, mul-le-mul_right}
use native.Mathlib.Omega.{arith}
use lib.ListN.{length}
use mathlib.Core.List.{List}
use lib.Ieee.{Float}
use Rattle.interpolation.specs.Blend.{InTable}
use Rattle.interpolation.specs.declared.weights.Four.{Four}
use Rattle.interpolation.specs.Interval.{node_interval}
use Rattle.interpolation.specs.Weights.{four_at}
use Rattle.interpolation.specs.Laws.{Reach}
use Rattle.interpolation.proofs.Bisection.{node_bound}
use Rattle.interpolation.proofs.Reach.{reach}
use Rattle.interpolation.proofs.Rows.{row_is, in_table}

-- the row of weight k, counted from 1, ends within the list if that of weight 2 does
pub row_ends : (profile : List Float) (m i : ℕ) (f : Four) → InTable profile m i f → (k : ℕ) → k ≤ 2 → (i + k) * m ≤ length profile
row_ends profile m i f t k l = le_trans (mul-le-mul_right m (omega arith)) t.inside

-- ---- what the weights of a value among nodes reach

pub interval_in : (nodes : List Float) (x : Float) → 2 ≤ length nodes → node_interval nodes x + 2 ≤ length nodes
interval_in nodes x two = omega (arith, node_bound nodes x)

pub four_reach : (nodes : List Float) (x : Float) (i n : ℕ) → i + 2 ≤ length nodes → length nodes ≡ n → Reach (four_at nodes x i) i n
four_reach nodes x i n h e = rw (← e) (reach nodes x i h)

pub four_in_table : (nodes table : List Float) (x : Float) (m i : ℕ) → i + 2 ≤ length nodes → length table ≡ length nodes * m → InTable table m i (four_at nodes x i)
four_in_table nodes table x m i h e = in_table table (length nodes) m i (four_at nodes x i) (reach nodes x i h) e

-- by the interval and the weights that the code has of x
pub in_rows : (nodes table : List Float) (x : Float) (m i : ℕ) (f : Four) → i ≡ node_interval nodes x → f ≡ four_at nodes x i → 2 ≤ length nodes → length table ≡ length nodes * m → InTable table m i f
in_rows nodes table x m i f p q two e = rw (q, p) (four_in_table nodes table x m _ (interval_in nodes x two) e)

pub ruleset reading = (row_is, row_ends)

pub ruleset searching = (interval_in, four_reach, four_in_table)
