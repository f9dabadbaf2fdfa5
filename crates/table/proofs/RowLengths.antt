-- A row is as long as its radii. Assumes nothing.
use mathlib.Core.Path.{◌≡◌}
use mathlib.Core.List.{List}
use lib.ListN.{length}
use lib.Ieee.{Float}
use Rattle.elementary.proofs.Mapped.{length_map}
use Rattle.elementary.proofs.Filled.{length_list_of}
use Rattle.interpolation.specs.Integral.{running_sum, cdf_of}
use Rattle.table.specs.Row.{profile_entry, profile_row, cdf_row}
use Rattle.table.specs.declared.parameters.Record.{Record}

pub length_profile : (r : Record) (rho : Float) (radii : List Float) → length (profile_row r rho radii) ≡ length radii
unfolding profile_row
length_profile r rho radii = length_map (profile_entry r rho) radii

length_cdf : (x values : List Float) → length (cdf_of x values) ≡ length x
unfolding cdf_of
length_cdf x values = length_list_of (length x) (running_sum x values)

pub length_cdf_row : (r : Record) (rho : Float) (radii : List Float) → length (cdf_row r rho radii) ≡ length radii
unfolding cdf_row
length_cdf_row r rho radii = length_cdf radii _
