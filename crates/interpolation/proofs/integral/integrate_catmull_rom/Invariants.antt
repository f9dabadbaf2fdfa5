-- the sum is that of the segments so far, and the list holds each partial sum up to it
use Rattle.std.proofs.Common.{◌≡◌, ◌+◌, ◌-◌, length}
use Rattle.elementary.specs.Lists.{sum_to}
use Rattle.elementary.proofs.Filled.{Fills}
use Rattle.interpolation.specs.Integral.{segment_integral}
use Rattle.interpolation.proofs.integral.integrate_catmull_rom.Given as goal

abbrev pub invariant-loop-i : goal.invariant-loop-i
invariant-loop-i l = (l.sum ≡ sum_to (segment_integral l.x l.values) l.i) × Fills (sum_to (segment_integral l.x l.values)) l.cdf (length l.x) (l.i + 1)

abbrev pub decreases-loop-i : goal.decreases-loop-i
decreases-loop-i l = l.n - l.i
