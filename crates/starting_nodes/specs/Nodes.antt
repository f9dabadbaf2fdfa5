-- The nodes that `compute_beam_diffusion_bssrdf` of bssrdf.rs chooses (specification, section 5), in its order of operations, over the growth of the radii and the decay of the albedos: there 1.2 and 8.
use Rattle.std.specs.Prelude.{ℕ, zero, suc, pos, Float}
use Rattle.std.specs.Float.{binary32}
use Rattle.std.specs.Float.Ieee.{of_int, neg}
use Rattle.elementary.specs.Notation.{◌⊖◌, ◌⊗◌, ◌⊘◌, lit}
use Rattle.elementary.specs.Exponential.{exp}
use Rattle.scattering.specs.Literals.{one}

-- the literals, by their bits; proofs/Literals.antt shows that each is what its decimal rounds to
abbrev pub «0·0025» : Float
«0·0025» = lit 0x3b23_d70a

abbrev pub «1·2» : Float
«1·2» = lit 0x3f99_999a

-- 8.0
abbrev pub eight : Float
eight = lit 0x4100_0000

-- the radius j: 0, 0.0025, and then the former * growth
unfoldable pub radius_sample : Float → ℕ → Float
radius_sample growth zero = lit 0
radius_sample growth (suc zero) = «0·0025»
radius_sample growth (suc (suc j)) = radius_sample growth (suc j) ⊗ growth

-- the albedo i of n: (1 - exp(-decay * i / (n - 1))) / (1 - exp(-decay))
unfoldable pub rho_sample : Float → ℕ → ℕ → Float
rho_sample decay n i =
    (one ⊖ exp (neg decay ⊗ of_int binary32 (pos i) ⊘ (of_int binary32 (pos n) ⊖ one))) ⊘ (one ⊖ exp (neg decay))
