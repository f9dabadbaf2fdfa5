-- the elements so far are results of f
use Rattle.std.proofs.Common.{◌≡◌, ℕ, ◌<◌, ◌≤◌, length, get_or}
use lib.Ieee.{nan}
use Rattle.elementary.proofs.lists.fill_by.Given as goal

abbrev pub invariant-loop-k : goal.invariant-loop-k
invariant-loop-k g l = (l.k ≤ l.k-end) × (length l.out ≡ l.k-end) × ((j : ℕ) → j < l.k → goal.F-post g l.f j (get_or l.out j nan))
