-- `find_interval` of pbrt.rs (specification, section 9.2): a bisection of 0 .. size by a test on indices, the Rust's closure. Nothing is asked of the test.
use Rattle.std.specs.Prelude.{ℕ, zero, suc, ◌+◌, ◌-◌, ◌/◌, min, Bool, cond, List, get_or, length, Float}
use Rattle.std.specs.Float.{nan}
use Rattle.std.specs.Float.Ieee.{le}

-- The loop, from `first` and `len` on, in at most `turns` turns. Each turn makes len smaller, so `len` turns are enough (`enough` of proofs/Bisection).
-- A `let` waits until its value is read, so only one of the two ways is computed.
unfoldable pub bisect : (ℕ → Bool) → ℕ → ℕ → ℕ → ℕ
bisect p zero first len = first
bisect p (suc turns) first zero = first
bisect p (suc turns) first (suc m) =
    let len = suc m in
    let half = len / 2 in
    let upper = bisect p turns (first + half + 1) (len - (half + 1)) in
    let lower = bisect p turns first half in
    cond (p (first + half)) upper lower

-- `clamp_t(first - 1, 0, size - 2)` of where the loop ends: over natural numbers 0 - 1 is 0
unfoldable pub find_interval : (ℕ → Bool) → ℕ → ℕ
find_interval p size = min (bisect p size 0 size - 1) (size - 2)

-- the search over a node list: its test is whether node k is at most x
unfoldable pub at_most : List Float → Float → ℕ → Bool
at_most nodes x k = le (get_or nodes k nan) x

unfoldable pub node_interval : List Float → Float → ℕ
node_interval nodes x = find_interval (at_most nodes x) (length nodes)
