-- `integrate_catmull_rom` of interpolation.rs over one row, in its order of operations (specification, section 9.5).
use Rattle.std.specs.Prelude.{ℕ, ◌+◌, ◌-◌, List, get_or, length, Float}
use Rattle.std.specs.Float.{nan}
use Rattle.elementary.specs.Notation.{◌⊕◌, ◌⊖◌, ◌⊗◌, ◌⊘◌, lit}
use Rattle.elementary.specs.Lists.{sum_to, list_of}
use Rattle.interpolation.specs.Slope.{width, slope_before, slope_after}

-- the integral over the segment i: 0x3f800000 is 1, 0x41400000 is 12 and 0x3f000000 is 0.5
unfoldable pub segment_integral : List Float → List Float → ℕ → Float
segment_integral x values i =
    let f : ℕ → Float = λ k. get_or values k nan in
    let d0 = slope_before x f i in
    let d1 = slope_after x f i in
    ((d0 ⊖ d1) ⊗ (lit 0x3f800000 ⊘ lit 0x41400000) ⊕ (f i ⊕ f (i + 1)) ⊗ lit 0x3f000000) ⊗ width x i

-- the running sum over the first k segments, from +0 on
unfoldable pub running_sum : List Float → List Float → ℕ → Float
running_sum x values = sum_to (segment_integral x values)

-- the sum over all the segments
unfoldable pub integrate_catmull_rom : List Float → List Float → Float
integrate_catmull_rom x values = running_sum x values (length x - 1)

-- the CDF: the running sum up to each node
unfoldable pub cdf_of : List Float → List Float → List Float
cdf_of x values = list_of (length x) (running_sum x values)
