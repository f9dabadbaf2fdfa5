-- the elements so far are results of f
use Rattle.std.proofs.Common.{◌≡◌, ℕ, ◌<◌, ◌≤◌, length, get_or}
use lib.Ieee.{nan}
use Rattle.elementary.proofs.lists.zip_into.Given as goal

abbrev pub invariant-loop-i : goal.invariant-loop-i
invariant-loop-i g l = (l.i ≤ l.i-end) × (length l.out ≡ l.i-end) × ((k : ℕ) → k < l.i → goal.F-post g l.f (get_or l.xs k nan) (get_or l.ys k nan) (get_or l.out k nan))
