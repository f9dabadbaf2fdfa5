-- One row of a table (specification, section 6): the body of the last loop of `compute_beam_diffusion_bssrdf` in bssrdf.rs.
use Rattle.std.specs.Prelude.{ℕ, ◌+◌, List, map, ◌++◌, length, take, drop, Float}
use Rattle.elementary.specs.Notation.{◌⊕◌, ◌⊖◌, ◌⊗◌}
use Rattle.elementary.specs.Constants.{pi}
use Rattle.interpolation.specs.Integral.{integrate_catmull_rom, cdf_of}
use Rattle.scattering.specs.Literals.{one, two}
use Rattle.scattering.specs.Single.{beam_diffusion_ss}
use Rattle.scattering.specs.Multiple.{beam_diffusion_ms}
use Rattle.table.specs.declared.parameters.Record.{Record}

-- the entry at the radius x, which is the Rust's r: 2.0 * PI * r * (ss + ms). The albedo rho is sigma_s, and 1 minus it sigma_a
unfoldable pub profile_entry : Record → Float → Float → Float
profile_entry r rho x =
    let ss = beam_diffusion_ss rho (one ⊖ rho) r.g r.eta x in
    let ms = beam_diffusion_ms rho (one ⊖ rho) r.g r.eta x in
    two ⊗ pi ⊗ x ⊗ (ss ⊕ ms)

-- the profile over the radii
unfoldable pub profile_row : Record → Float → List Float → List Float
profile_row r rho radii = map (profile_entry r rho) radii

-- its CDF, and its effective albedo, which is the sum
unfoldable pub cdf_row : Record → Float → List Float → List Float
cdf_row r rho radii = cdf_of radii (profile_row r rho radii)

unfoldable pub effective_albedo : Record → Float → List Float → Float
effective_albedo r rho radii = integrate_catmull_rom radii (profile_row r rho radii)

-- a list in which `part` has taken the place of as many elements, from the place `at` on
unfoldable pub put : ℕ → List Float → List Float → List Float
put at part xs = take at xs ++ (part ++ drop (at + length part) xs)
