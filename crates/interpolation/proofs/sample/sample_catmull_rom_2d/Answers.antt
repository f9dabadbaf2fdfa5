-- `sample_catmull_rom_2d` meets its contract: the rows that the weights ask for lie within each of the two tables.
use Rattle.interpolation.proofs.Rows.{found_in_table}
use Rattle.interpolation.proofs.sample.sample_catmull_rom_2d.Goals as goal

pub invariant_of-values : goal.invariant_of-values
invariant_of-values c = record { in_table = found_in_table _ _ _ _ _ _ c.place-place.ensures.interval c.place-place.ensures.four c.args.nodes1.some c.requires.values_length }

pub invariant_of-cdf : goal.invariant_of-cdf
invariant_of-cdf c = record { in_table = found_in_table _ _ _ _ _ _ c.place-place.ensures.interval c.place-place.ensures.four c.args.nodes1.some c.requires.cdf_length }
