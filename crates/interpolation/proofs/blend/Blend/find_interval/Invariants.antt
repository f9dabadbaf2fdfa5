-- what is left to bisect lies within the columns, and bisecting it gives what bisecting them all gives
use Rattle.std.proofs.Common.{◌≡◌, ◌+◌, ◌≤◌}
use Rattle.interpolation.specs.Interval.{bisect}
use Rattle.interpolation.specs.Weights.{offset_of}
use Rattle.interpolation.specs.Blend.{blend_at_most}
use Rattle.interpolation.proofs.blend.Blend.find_interval.Given as goal

abbrev pub invariant-loop-len : goal.invariant-loop-len
invariant-loop-len l = let p = blend_at_most l.self.table.now l.m (offset_of l.self.place.interval) l.self.place.four l.u in (l.first + l.len ≤ l.m) × (bisect p l.len l.first l.len ≡ bisect p l.m 0 l.m)

abbrev pub decreases-loop-len : goal.decreases-loop-len
decreases-loop-len l = l.len
