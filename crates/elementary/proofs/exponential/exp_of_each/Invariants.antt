-- the elements so far are replaced by their exponentials, and the rest are as they were, so the room holds the series of each that is still to come
use Rattle.std.proofs.Common.{◌≡◌, length}
use Rattle.elementary.specs.Exponential.{exp}
use Rattle.elementary.proofs.Mapped.{Mapped}
use Rattle.elementary.proofs.exponential.exp_of_each.Given as goal

abbrev pub invariant-loop-i : goal.invariant-loop-i
invariant-loop-i l = (length l.room ≡ length l.initial.xs) × Mapped exp l.initial.xs l.xs l.i
