-- The laws of the splines, each by the theorem of its name. Assumes nothing.
use Rattle.interpolation.specs.Laws.{SplineLaws}
use Rattle.interpolation.proofs.Bisection.{node_bound}
use Rattle.interpolation.proofs.Accepted.{interval_last}
use Rattle.interpolation.proofs.Reach.{reach_of_weights, offset_range, nan_outside}
use Rattle.interpolation.proofs.Bounded.{weights_bounded}
use Rattle.interpolation.proofs.OnNode.{on_node}
use Rattle.interpolation.proofs.Rows.{blend_bound, interpolate_same}
use Rattle.interpolation.proofs.Needed.{draw_same}
use Rattle.interpolation.proofs.Allowance.{sample_more}

pub spline_laws : SplineLaws
spline_laws =
    record {
      node_bound = node_bound;
      blend_bound = blend_bound;
      last_interval = λ nodes a. interval_last nodes a.holds a.two a.ok;
      offset_range = offset_range;
      nan_outside = nan_outside;
      on_node = λ nodes a. on_node nodes a.holds a.two a.ok;
      weights_bounded = λ nodes a. weights_bounded nodes a.holds a.two a.ok;
      reach_of_weights = reach_of_weights;
      interpolate_same = interpolate_same;
      draw_same = draw_same;
      sample_more = sample_more;
    }

pub ruleset joint = (spline_laws)
