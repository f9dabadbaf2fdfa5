-- Laws of `bisect` and `find_interval`. Each turn makes len smaller, so turns beyond len change nothing (`enough`), and a turn of the code's loop keeps the answer (`turn_up`, `turn_down`).
-- All through, the test holds just below `first` and fails at first + len: so where the bisection ends it holds just below, and fails there. Nothing is asked of the test in between. Assumes nothing.
use mathlib.Core.Path.{◌≡◌, refl, sym, ◌∙◌}
use mathlib.Core.Bool.{Bool, true, false, cond, true≢false}
use mathlib.Core.Logic.{◌⊎◌, inl, inr}
use mathlib.Core.List.{List}
use Prim.Native.Nat.{ℕ, zero, suc, ◌+◌, ◌-◌, ◌/◌, ◌≤◌, ◌<◌, min}
use native.Mathlib.Nat.{eq-or-lt_of_le, min-le_right}
use native.Mathlib.Omega.{arith}
use lib.ListN.{length}
use lib.Ieee.{Float}
use Rattle.interpolation.specs.Interval.{bisect, find_interval, at_most, node_interval}

-- ---- turns

-- nothing is left to search
pub done : (p : ℕ → Bool) (turns first : ℕ) → bisect p turns first zero ≡ first
unfolding bisect
done p zero first = refl
done p (suc turns) first = refl

-- turns beyond len change nothing
pub enough : (p : ℕ → Bool) (turns more first len : ℕ) → len ≤ turns → turns ≤ more → bisect p more first len ≡ bisect p turns first len
unfolding bisect
enough p zero more first zero h k = done p more first
enough p zero more first (suc m) h k = absurd (omega arith)
enough p (suc turns) zero first len h k = absurd (omega arith)
enough p (suc turns) (suc more) first zero h k = refl
enough p (suc turns) (suc more) first (suc m) h k =
    rw (
      enough p turns more (first + suc m / 2 + 1) (suc m - (suc m / 2 + 1)) (omega arith) (omega arith),
      enough p turns more first (suc m / 2) (omega arith) (omega arith),
    )

-- one turn of the code's loop, which may take len turns: where the test at the middle holds, and where it fails
pub turn_up : (p : ℕ → Bool) (first len : ℕ) → 0 < len → p (first + len / 2) ≡ true
    → bisect p (len - (len / 2 + 1)) (first + len / 2 + 1) (len - (len / 2 + 1)) ≡ bisect p len first len
unfolding bisect
turn_up p first zero h t = absurd (omega arith)
turn_up p first (suc m) h t = rw t (sym (enough p (suc m - (suc m / 2 + 1)) m (first + suc m / 2 + 1) (suc m - (suc m / 2 + 1)) (omega arith) (omega arith)))

pub turn_down : (p : ℕ → Bool) (first len : ℕ) → 0 < len → p (first + len / 2) ≡ false → bisect p (len / 2) first (len / 2) ≡ bisect p len first len
unfolding bisect
turn_down p first zero h t = absurd (omega arith)
turn_down p first (suc m) h t = rw t (sym (enough p (suc m / 2) m first (suc m / 2) (omega arith) (omega arith)))

-- and where nothing is left
pub turn_none : (p : ℕ → Bool) (turns first len : ℕ) → len ≤ 0 → bisect p turns first len ≡ first
turn_none p turns first zero h = done p turns first
turn_none p turns first (suc m) h = absurd (omega arith)

-- what the prover takes for the loop
pub ruleset turning = (turn_up, turn_down, turn_none)

-- ---- the answer is the left end of an interval

pub interval_bound : (p : ℕ → Bool) (size : ℕ) → find_interval p size ≤ size - 2
unfolding find_interval
interval_bound p size = min-le_right _ _

pub node_bound : (nodes : List Float) (x : Float) → node_interval nodes x ≤ length nodes - 2
unfolding node_interval
node_bound nodes x = interval_bound (at_most nodes x) (length nodes)

-- ---- where the bisection ends

pub record Ends (p : ℕ → Bool) (n r : ℕ) : Type 0 where
  pub bound : r ≤ n
  pub below : 0 < r → p (r - 1) ≡ true
  pub above : r < n → p r ≡ false

at : (p : ℕ → Bool) (b : Bool) (i j : ℕ) → i ≡ j → p i ≡ b → p j ≡ b
at p b i j e h = rw (sym e) h

stop : (p : ℕ → Bool) (n first len : ℕ) → len ≤ 0 → first + len ≤ n → (0 < first → p (first - 1) ≡ true) → (first + len < n → p (first + len) ≡ false) → Ends p n first
stop p n first len z l u d = record { bound = omega arith; below = u; above = λ (h : first < n). at p false (first + len) first (omega arith) (d (omega arith)) }

bisect_from : (p : ℕ → Bool) (n turns first len : ℕ) → len ≤ turns → first + len ≤ n → (0 < first → p (first - 1) ≡ true) → (first + len < n → p (first + len) ≡ false)
    → Ends p n (bisect p turns first len)
unfolding bisect
bisect_from p n zero first len f l u d = stop p n first len f l u d
bisect_from p n (suc turns) first zero f l u d = stop p n first zero (omega arith) l u d
bisect_from p n (suc turns) first (suc m) f l u d =
    let half = suc m / 2 in
    go (p (first + half))
    (λ (h : p (first + half) ≡ true).
    bisect_from p n turns (first + half + 1) (suc m - (half + 1)) (omega arith) (omega arith) (λ _. at p true (first + half) (first + half + 1 - 1) (omega arith) h)
    (λ (g : first + half + 1 + (suc m - (half + 1)) < n). at p false (first + suc m) (first + half + 1 + (suc m - (half + 1))) (omega arith) (d (omega arith))))
    (λ (h : p (first + half) ≡ false). bisect_from p n turns first half (omega arith) (omega arith) u (λ _. h))
    refl
  where
    go : (b : Bool) → (p (first + suc m / 2) ≡ true → Ends p n (bisect p turns (first + suc m / 2 + 1) (suc m - (suc m / 2 + 1)))) → (p (first + suc m / 2) ≡ false → Ends p n (bisect p turns first (suc m / 2)))
        → p (first + suc m / 2) ≡ b → Ends p n (cond b (bisect p turns (first + suc m / 2 + 1) (suc m - (suc m / 2 + 1))) (bisect p turns first (suc m / 2)))
    go true upper lower e = upper e
    go false upper lower e = lower e

pub bisect_ends : (p : ℕ → Bool) (n : ℕ) → Ends p n (bisect p n 0 n)
bisect_ends p n = bisect_from p n n 0 n (omega arith) (omega arith) (λ (l : 0 < 0). absurd (omega arith)) (λ (l : 0 + n < n). absurd (omega arith))

-- For a test that holds at 0: it holds at i and fails at i + 1, or i is the last interval and the test holds at i + 1 too.
abbrev pub Found : (ℕ → Bool) → ℕ → ℕ → Type 0
Found p n i = (i + 2 ≤ n) × (((p i ≡ true) × (p (i + 1) ≡ false)) ⊎ ((i + 2 ≡ n) × (p (i + 1) ≡ true)))

pub interval_found : (p : ℕ → Bool) (n : ℕ) → 2 ≤ n → p 0 ≡ true → Found p n (find_interval p n)
unfolding find_interval
interval_found p n h t = go (bisect p n 0 n) (bisect_ends p n)
  where
    go : (r : ℕ) → Ends p n r → Found p n (min (r - 1) (n - 2))
    go zero e = absurd (true≢false (sym t ∙ e.above (omega arith)))
    go (suc r) e = elim (eq-or-lt_of_le e.bound) [
      | inl k ↦ (omega arith, inr (omega arith, at p true (suc r - 1) (min (suc r - 1) (n - 2) + 1) (omega arith) (e.below (omega arith))))
      | inr k ↦ (
        omega arith,
        inl (at p true (suc r - 1) (min (suc r - 1) (n - 2)) (omega arith) (e.below (omega arith)), at p false (suc r) (min (suc r - 1) (n - 2) + 1) (omega arith) (e.above k)),
      )
    ]

-- what the check tries at the goals of `weights`
pub ruleset bounding = (node_bound)
