-- the elements so far are results of f at what stood there, and the others stand there still
use Rattle.std.proofs.Common.{◌≡◌, ℕ, ◌<◌, ◌≤◌, length, get_or}
use lib.Ieee.{nan}
use Rattle.elementary.proofs.lists.map_in_place.Given as goal

abbrev pub invariant-loop-x : goal.invariant-loop-x
invariant-loop-x g l =
    (l.x-index ≤ l.x-index-end)
    × (length l.xs ≡ l.x-index-end)
    × ((k : ℕ) → k < l.x-index → goal.F-post g l.f (get_or l.fn.xs k nan) (get_or l.xs k nan))
    × ((k : ℕ) → l.x-index ≤ k → get_or l.xs k nan ≡ get_or l.fn.xs k nan)
