-- Between binary32 and binary64 (specification, section 7.5): the Rust's `as f64` and `as f32`.
use Rattle.std.specs.Prelude.{◌*◌, Float}
use Rattle.std.specs.Float.{Format, nan, inf, fin, binary32}
use Rattle.std.specs.Float.Ieee.{up, down, round}

-- the value at the wider format, which holds every binary32 value: one type serves both formats, so it is the value itself
abbrev pub widen : Float → Float
widen x = x

-- the value of the format f that is nearest to x, ties to even: one rounding of the exact value ±m * 2 ^ e
unfoldable pub rounded : Format → Float → Float
rounded f nan = nan
rounded f (inf s) = inf s
rounded f (fin s m e) = round f s (m * up e) (down e)

-- the nearest binary32 value: from halfway past the largest one on an infinity, and below the normal range a multiple of 2 ^ -149
abbrev pub narrow : Float → Float
narrow x = rounded binary32 x
