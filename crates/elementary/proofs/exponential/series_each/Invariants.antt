-- the room holds the series of the elements so far
use Rattle.std.proofs.Common.{◌*◌}
use Rattle.elementary.specs.Exponential.{series}
use Rattle.elementary.proofs.Mapped.{FillsFrom}
use Rattle.elementary.proofs.exponential.series_each.Given as goal

abbrev pub invariant-loop-i : goal.invariant-loop-i
invariant-loop-i l = FillsFrom series l.xs l.room (2 * l.i)
