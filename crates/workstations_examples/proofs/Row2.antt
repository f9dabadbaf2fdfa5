-- Row 2 of the examples' table, by computation: the sums of each entry, the entries, and with them the table. Each sum is a declaration of its own, since antt bounds what one may compute.
use mathlib.Core.Path.{◌≡◌, refl, ap, ap₂}
use mathlib.Core.List.{List, [], ◌∷◌, ◌++◌}
use lib.ListN.{get_or}
use lib.Ieee.{Float, nan, is_nan, add, sub, mul, div, neg, lt, le, of_int, of_bits}
use Rattle.elementary.specs.Notation.{lit}
use Rattle.elementary.specs.Lists.{sum_to, from, list_of}
use Rattle.elementary.specs.Convert.{rounded}
use Rattle.elementary.specs.Exponential.{terms, squared, series, exp}
use Rattle.elementary.specs.Logarithm.{odds, ln_series, ln}
use Rattle.elementary.specs.Root.{digits, root_of, sqrt}
use Rattle.elementary.specs.Units.{mag}
use Rattle.elementary.specs.Sign.{abs, max0}
use Rattle.interpolation.specs.Integral.{integrate_catmull_rom, cdf_of}
use Rattle.scattering.specs.Literals.{one, two}
use Rattle.scattering.specs.Clamp.{clamp_t}
use Rattle.scattering.specs.Samples.{n_samples, sample_ln, distance}
use Rattle.scattering.specs.Moments.{fresnel_moment1, fresnel_moment2}
use Rattle.scattering.specs.Phase.{denom, phase_hg}
use Rattle.scattering.specs.Fresnel.{swapped, complement, snell, sin_theta_i, sin_theta_t, cos_theta_t, reflectance_at, reflectance, reflected_at, reflected, fr_dielectric}
use Rattle.scattering.specs.Single.{ss_term, ss_addend, beam_diffusion_ss}
use Rattle.scattering.specs.Multiple.{dipole, ms_term, ms_addend, beam_diffusion_ms}
use Rattle.starting_nodes.specs.Nodes.{«0·0025», radius_sample, rho_sample}
use Rattle.table.specs.Nodes.{radius_samples, rho_samples}
use Rattle.table.specs.Parameters.{Lists}
use Rattle.table.specs.Row.{profile_entry, profile_row, cdf_row, effective_albedo}
use Rattle.table.specs.TableRow.{built_row, empty_row}
use Rattle.table.specs.Sets.{rows_from, table_with, table_of}
use Rattle.workstations_examples.specs.Examples.{three, table_of_row2}

-- ---- the two sums, at albedo 1, at each radius node

single_0 : beam_diffusion_ss one (lit 0) (lit 0) two (lit 0) ≡ lit 0x4207_ebc8
unfolding beam_diffusion_ss ss_addend ss_term n_samples sample_ln distance phase_hg denom fr_dielectric reflected reflected_at reflectance reflectance_at cos_theta_t snell sin_theta_t sin_theta_i complement swapped clamp_t sum_to ln ln_series odds exp series terms squared rounded sqrt root_of digits mag abs max0 is_nan lt le neg sub add mul div of_int of_bits
single_0 = refl

single_1 : beam_diffusion_ss one (lit 0) (lit 0) two «0·0025» ≡ lit 0x4134_fabc
unfolding single_0
single_1 = refl

multiple_0 : beam_diffusion_ms one (lit 0) (lit 0) two (lit 0) ≡ lit 0x3e81_23f4
unfolding single_0 beam_diffusion_ms ms_addend ms_term dipole fresnel_moment1 fresnel_moment2
multiple_0 = refl

multiple_1 : beam_diffusion_ms one (lit 0) (lit 0) two «0·0025» ≡ lit 0x3e69_f7a9
unfolding multiple_0
multiple_1 = refl

-- ---- the row, and the table

entry_0 : profile_entry three one (lit 0) ≡ lit 0
unfolding profile_entry sub add mul of_bits
entry_0 = rw (single_0, multiple_0) refl

entry_1 : profile_entry three one «0·0025» ≡ lit 0x3e39_9d94
unfolding entry_0
entry_1 = rw (single_1, multiple_1) refl

abbrev pub row : List Float
row = lit 0 ∷ lit 0x3e39_9d94 ∷ []

row_is : profile_row three (get_or (rho_samples three) 2 nan) (radius_samples three) ≡ row
unfolding profile_row radius_samples radius_sample rho_samples rho_sample list_of from exp series terms squared rounded is_nan lt le neg sub mul div of_int of_bits
row_is = ap₂ (λ (x y : Float). x ∷ y ∷ []) entry_0 entry_1

-- the table, by its row
abbrev pub table_by : List Float → Lists
table_by p = record {
  rho_samples = rho_samples three;
  radius_samples = radius_samples three;
  profile = lit 0 ∷ lit 0 ∷ lit 0 ∷ lit 0 ∷ p ++ [];
  rho_eff = lit 0 ∷ lit 0 ∷ integrate_catmull_rom (radius_samples three) p ∷ [];
  profile_cdf = lit 0 ∷ lit 0 ∷ lit 0 ∷ lit 0 ∷ cdf_of (radius_samples three) p ++ [];
  marks = 0 ∷ 0 ∷ 1 ∷ [];
}

pub table_is : table_of_row2 ≡ table_by row
unfolding table_of table_with built_row empty_row rows_from list_of from cdf_row effective_albedo
table_is = ap table_by row_is
