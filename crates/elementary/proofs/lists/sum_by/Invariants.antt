-- whatever v says of the results of f, the sum so far is that of v
use Rattle.std.proofs.Common.{◌≡◌, ℕ, ◌<◌, ◌≤◌}
use lib.Ieee.{Float}
use Rattle.elementary.specs.Lists.{sum_to}
use Rattle.elementary.proofs.lists.sum_by.Given as goal

abbrev pub invariant-loop-i : goal.invariant-loop-i
invariant-loop-i g l = (l.i ≤ l.n) × ((v : ℕ → Float) → ((k : ℕ) (y : Float) → k < l.n → goal.F-post g l.f k y → y ≡ v k) → l.sum ≡ sum_to v l.i)
