-- The derivatives at the ends of a spline's segment (specification, section 9.4), by finite differences, times the segment's width: `d0` and `d1` of `integrate_catmull_rom` and of `sample_catmull_rom_2d`.
-- The function's values at the nodes x are f 0, f 1, ..: a list's for the first, blended ones for the second.
use Rattle.std.specs.Prelude.{ℕ, ◌+◌, ◌-◌, cond, List, ltb, get_or, length, Float}
use Rattle.std.specs.Float.{nan}
use Rattle.elementary.specs.Notation.{◌⊖◌, ◌⊗◌, ◌⊘◌}

unfoldable pub width : List Float → ℕ → Float
width x i = get_or x (i + 1) nan ⊖ get_or x i nan

-- d0, at the start of the segment i: from the node before it, if there is one
unfoldable pub slope_before : List Float → (ℕ → Float) → ℕ → Float
slope_before x f i =
    cond (ltb 0 i) (width x i ⊗ (f (i + 1) ⊖ f (i - 1)) ⊘ (get_or x (i + 1) nan ⊖ get_or x (i - 1) nan)) (f (i + 1) ⊖ f i)

-- d1, at its end: from the node after it, if there is one
unfoldable pub slope_after : List Float → (ℕ → Float) → ℕ → Float
slope_after x f i =
    cond (ltb (i + 2) (length x)) (width x i ⊗ (f (i + 2) ⊖ f i) ⊘ (get_or x (i + 2) nan ⊖ get_or x i nan)) (f (i + 1) ⊖ f i)
