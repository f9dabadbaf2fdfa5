-- whatever test the two tell, the count so far is of the numbers that pass it
use Rattle.std.proofs.Common.{◌≡◌, ℕ, Bool, ◌*◌, ◌+◌, ◌<◌, ◌≤◌}
use Rattle.std.specs.List.{count_by, range_with_len}
use Rattle.interpolation.proofs.Counting.{count}
use Rattle.interpolation.proofs.eights.count_below.Given as goal

abbrev pub invariant-loop-k : goal.invariant-loop-k
invariant-loop-k g l =
    (l.count ≤ 8 * l.k)
    × ((p : ℕ → Bool) → ((i k : ℕ) → i + 8 ≤ l.n → goal.E-post g l.eight i k → k ≡ count_by p (range_with_len i 8)) → l.count ≡ count p (8 * l.k))

abbrev pub invariant-loop-i : goal.invariant-loop-i
invariant-loop-i g l =
    (l.count ≤ l.i)
    × ((p : ℕ → Bool) → ((i k : ℕ) → i + 8 ≤ l.n → goal.E-post g l.eight i k → k ≡ count_by p (range_with_len i 8)) → ((i : ℕ) (b : Bool) → i < l.n → goal.O-post g l.one i b → b ≡ p i)
    → l.count ≡ count p l.i)
