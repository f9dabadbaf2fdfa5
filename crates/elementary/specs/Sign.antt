-- The sign of a value (specification, section 7.1): `abs` of the Rust's `f32`, and the maximum of 0 and v.
use Rattle.std.specs.Prelude.{false, cond, Float}
use Rattle.std.specs.Float.{nan, inf, fin}
use Rattle.std.specs.Float.Ieee.{lt}
use Rattle.elementary.specs.Notation.{lit}

-- the value with its sign cleared: -0 gives +0, and a NaN a NaN
unfoldable pub abs : Float → Float
abs nan = nan
abs (inf s) = inf false
abs (fin s m e) = fin false m e

-- v if v > 0, else +0: so -0 and a NaN give +0
unfoldable pub max0 : Float → Float
max0 v = cond (lt (lit 0) v) v (lit 0)
