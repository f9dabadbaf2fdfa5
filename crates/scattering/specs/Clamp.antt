-- `clamp_t` of pbrt.rs (specification, section 8.1). A NaN stays one.
use Rattle.std.specs.Prelude.{cond, Float}
use Rattle.std.specs.Float.Ieee.{lt}

unfoldable pub clamp_t : Float → Float → Float → Float
clamp_t val low high = cond (lt val low) low (cond (lt high val) high val)
