-- The constants of the source, by their bits (specification, section 7.6). `proofs/Literals.antt` shows that each is what its decimal literal rounds to.
use Rattle.std.specs.Prelude.{Float}
use Rattle.elementary.specs.Notation.{lit}

-- `std::f32::consts::PI`: 3.14159265358979323846264338327950288
abbrev pub pi : Float
pi = lit 0x4049_0fdb

-- `INV_4_PI` of pbrt.rs: 0.079_577_471_545_947_667_88
abbrev pub inv_4_pi : Float
inv_4_pi = lit 0x3da2_f983
