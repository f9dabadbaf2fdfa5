-- The proved values (`ProvedTable`), by computation: both sides compute to the same value, of the integral whatever the list held. Only `ones`, which speaks of many allowances, needs a law: it is computed under the allowance 1, and a larger one gives the same (`offered_more`). Assumes nothing.
use mathlib.Core.Path.{◌≡◌, refl}
use Prim.Native.Nat.{◌+◌, ◌^◌}
use lib.Ieee.{size, units, is_nan, add, sub, mul, div, neg, lt, le, eq, of_int, of_bits, round}
use Rattle.elementary.specs.Lists.{sum_to, from, list_of}
use Rattle.elementary.specs.Units.{mag}
use Rattle.elementary.specs.Convert.{rounded}
use Rattle.elementary.specs.Sign.{abs, max0}
use Rattle.elementary.specs.Root.{digits, root_of, sqrt}
use Rattle.elementary.specs.Exponential.{terms, squared, series, exp}
use Rattle.units.specs.Units.{plus}
use Rattle.interpolation.specs.Interval.{bisect, find_interval, at_most, node_interval}
use Rattle.interpolation.specs.Nodes.{finite, all_below, all_finite, increasing, nodes_ok}
use Rattle.interpolation.specs.Weights.{within, first_part, last_part, four_at, offset_of, catmull_rom_weights}
use Rattle.interpolation.specs.Slope.{width, slope_before, slope_after}
use Rattle.interpolation.specs.Integral.{segment_integral, running_sum, integrate_catmull_rom, cdf_of}
use Rattle.interpolation.specs.Blend.{row_of, add_row, interpolate, blend_at_most, blend_interval}
use Rattle.interpolation.specs.Solve.{first_guess, bounded_by, integral_at, value_at, stops, round_of, solve_from, solve}
use Rattle.interpolation.specs.Sample.{segment_at, drawn, draw, draw_from, sample_catmull_rom_2d}
use Rattle.answers.specs.Checks.{first_of}
use Rattle.interpolation.specs.Checks.{max_rows, max_radii, max_allowance, check1, check2, check5, check6, check9, check10}
use Rattle.answers.specs.Answer.{answered, written}
use Rattle.answers.specs.Refusal.{number, told}
use Rattle.interpolation.specs.Own.{weights_value, weights_number, weights, integral_value, integral_number, integral, cdf_after, sizes_number, sample_number, sample_value, sample_told, sample2d}
use Rattle.interpolation.specs.ProvedTable.{ProvedTable, near2, n0, n¾, n1, n2, nodes2, nodes3, over0}
use Rattle.interpolation.proofs.Allowance.{offered_more}

pub proved : ProvedTable
unfolding size units is_nan add sub mul div neg lt le eq of_int of_bits round sum_to from list_of mag rounded abs max0 digits root_of sqrt terms squared series exp bisect find_interval at_most node_interval finite all_below all_finite increasing nodes_ok within first_part last_part four_at offset_of catmull_rom_weights width slope_before slope_after segment_integral running_sum integrate_catmull_rom cdf_of row_of add_row interpolate blend_at_most blend_interval first_guess bounded_by integral_at value_at stops round_of solve_from solve segment_at drawn draw draw_from sample_catmull_rom_2d max_rows max_radii max_allowance check1 check2 check5 check6 check9 check10 first_of answered written weights_value weights_number weights integral_value integral_number integral cdf_after sizes_number sample_number sample_value sample_told sample2d number told
proved =
    record {
      at_0 = refl;
      at_1 = refl;
      at_2 = refl;
      at_½ = refl;
      at_1½ = refl;
      at_2½_outside = refl;
      between_two = refl;
      the_sum = λ a b c. refl;
      the_cdf = λ a b c. refl;
      ones = λ allowance l m. offered_more nodes2 nodes3 (over0 n1 n1 n1) (over0 n0 n1 n2) n0 n¾ 1 allowance refl l m;
      zeros_20 = refl;
      zeros_21 = refl;
      root_of_2 = refl;
      root_of_2^_148 = refl;
      exp_of_0 = refl;
    }

-- 2 - 2^-21 is 2 less 2^128 units of 2^-149
pub near2_is : plus near2 + 2 ^ 128 ≡ plus n2
unfolding plus mag of_bits
near2_is = refl
