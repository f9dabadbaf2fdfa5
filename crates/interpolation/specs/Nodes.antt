-- Check 6 (specification, section 9.1), over a node list.
use Rattle.std.specs.Prelude.{ℕ, zero, suc, ◌+◌, ◌-◌, Bool, true, false, ◌&&◌, List, get_or, length, Float}
use Rattle.std.specs.Float.{nan, inf, fin}
use Rattle.std.specs.Float.Ieee.{lt}
use Rattle.elementary.specs.Notation.{◌⊖◌}

-- neither a NaN nor an infinity
unfoldable pub finite : Float → Bool
finite nan = false
finite (inf s) = false
finite (fin s m e) = true

-- p holds of each number below n
unfoldable pub all_below : ℕ → (ℕ → Bool) → Bool
all_below zero p = true
all_below (suc n) p = all_below n p && p n

unfoldable pub all_finite : List Float → Bool
all_finite nodes = all_below (length nodes) (λ k. finite (get_or nodes k nan))

-- node k is below the next
abbrev pub rises : List Float → ℕ → Bool
rises nodes k = lt (get_or nodes k nan) (get_or nodes (k + 1) nan)

unfoldable pub increasing : List Float → Bool
increasing nodes = all_below (length nodes - 1) (rises nodes)

-- the nodes are finite and strictly increasing, and the last minus the first is finite
unfoldable pub nodes_ok : List Float → Bool
nodes_ok nodes = all_finite nodes && increasing nodes && finite (get_or nodes (length nodes - 1) nan ⊖ get_or nodes 0 nan)
