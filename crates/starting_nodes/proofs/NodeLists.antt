-- A radius after the first two is the former times the growth, read downward. Assumes nothing.
use mathlib.Core.Path.{◌≡◌, ap}
use Prim.Native.Nat.{ℕ, zero, suc, ◌-◌, ◌≤◌}
use native.Mathlib.Omega.{arith}
use lib.Ieee.{Float}
use Rattle.elementary.specs.Notation.{◌⊗◌}
use Rattle.starting_nodes.specs.Nodes.{radius_sample}

pub radius_next : (g : Float) (j : ℕ) → 2 ≤ j → radius_sample g j ≡ radius_sample g (j - 1) ⊗ g
unfolding radius_sample
radius_next g zero h = absurd (omega arith)
radius_next g (suc zero) h = absurd (omega arith)
radius_next g (suc (suc j)) h = let e : suc j ≡ suc (suc j) - 1 = omega arith in ap (λ (k : ℕ). radius_sample g k ⊗ g) e
