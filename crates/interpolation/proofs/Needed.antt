-- A draw reads only rows of nonzero weight, as each of its blends does: tables that agree on those rows give the same draw (`draw_same`). Every column that the draw blends is one of the row's own:
-- the search asks below m, and the slopes ask for neighbours only where there are any. Assumes nothing.
use mathlib.Core.Path.{◌≡◌, refl}
use mathlib.Core.Bool.{Bool, true, false, cond}
use mathlib.Core.List.{List}
use Prim.Native.Nat.{ℕ, zero, suc, ◌+◌, ◌-◌, ◌/◌, ◌≤◌, ◌<◌}
use native.Mathlib.Omega.{arith}
use borrow.Author.Tests.{ltb-true}
use lib.Dec.{ltb}
use Rattle.std.specs.Prelude.{Some}
use lib.ListN.{get_or, length}
use lib.Ieee.{Float, nan}
use Rattle.elementary.specs.Notation.{◌⊖◌, ◌⊗◌, ◌⊘◌}
use Rattle.interpolation.specs.Interval.{bisect, find_interval}
use Rattle.interpolation.specs.Slope.{width, slope_before, slope_after}
use Rattle.interpolation.specs.Blend.{interpolate, blend_at_most, blend_interval}
use Rattle.interpolation.specs.Sample.{segment_at, draw, draw_from}
use Rattle.interpolation.specs.Laws.{Agree}
use Rattle.interpolation.specs.declared.weights.Weights.{Weights}
use Rattle.interpolation.proofs.Rows.{interpolate_same, blend_bound}

-- ---- the search asks only below size

bisect_same : (p q : ℕ → Bool) (n turns first len : ℕ) → ((k : ℕ) → k < n → p k ≡ q k) → first + len ≤ n → bisect p turns first len ≡ bisect q turns first len
unfolding bisect
bisect_same p q n zero first len h l = refl
bisect_same p q n (suc turns) first zero h l = refl
bisect_same p q n (suc turns) first (suc m) h l =
    rw (
      h (first + suc m / 2) (omega arith),
      bisect_same p q n turns (first + suc m / 2 + 1) (suc m - (suc m / 2 + 1)) h (omega arith),
      bisect_same p q n turns first (suc m / 2) h (omega arith),
    )

find_same : (p q : ℕ → Bool) (n : ℕ) → ((k : ℕ) → k < n → p k ≡ q k) → find_interval p n ≡ find_interval q n
unfolding find_interval
find_same p q n h = rw (bisect_same p q n n 0 n h (omega arith))

-- ---- the slopes of values that agree below the number of nodes

before_same : (x : List Float) (f g : ℕ → Float) (i : ℕ) → ((k : ℕ) → k < length x → f k ≡ g k) → i + 1 < length x → slope_before x f i ≡ slope_before x g i
unfolding slope_before
before_same x f g i h l = rw (h (i + 1) l, h (i - 1) (omega arith), h i (omega arith))

after_same : (x : List Float) (f g : ℕ → Float) (i : ℕ) → ((k : ℕ) → k < length x → f k ≡ g k) → i + 1 < length x → slope_after x f i ≡ slope_after x g i
unfolding slope_after
after_same x f g i h l = go (ltb (i + 2) (length x)) refl
  where
    go : (b : Bool) → ltb (i + 2) (length x) ≡ b
        → cond b (width x i ⊗ (f (i + 2) ⊖ f i) ⊘ (get_or x (i + 2) nan ⊖ get_or x i nan)) (f (i + 1) ⊖ f i) ≡ cond b (width x i ⊗ (g (i + 2) ⊖ g i) ⊘ (get_or x (i + 2) nan ⊖ get_or x i nan)) (g (i + 1) ⊖ g i)
    go true e = rw (h (i + 2) (ltb-true (i + 2) (length x) e), h i (omega arith))
    go false e = rw (h (i + 1) l, h i (omega arith))

-- ---- the draw

module _ (nodes2 values values' cdf cdf' : List Float) (w : Weights) (two : 2 ≤ length nodes2)
    (A : Agree values values' (length nodes2) w.offset w.four) (B : Agree cdf cdf' (length nodes2) w.offset w.four) where
  abbrev m : ℕ
  m = length nodes2

  same_cdf : (k : ℕ) → k < length nodes2 → interpolate cdf (length nodes2) w.offset w.four k ≡ interpolate cdf' (length nodes2) w.offset w.four k
  same_cdf k l = interpolate_same cdf cdf' m w.offset w.four k B l

  same_values : (k : ℕ) → k < length nodes2 → interpolate values (length nodes2) w.offset w.four k ≡ interpolate values' (length nodes2) w.offset w.four k
  same_values k l = interpolate_same values values' m w.offset w.four k A l

  interval_same : (u : Float) → blend_interval cdf (length nodes2) w.offset w.four u ≡ blend_interval cdf' (length nodes2) w.offset w.four u
  unfolding blend_interval blend_at_most
  interval_same u = find_same (blend_at_most cdf m w.offset w.four u) (blend_at_most cdf' m w.offset w.four u) m (λ k l. rw (same_cdf k l))

  segment_same : (u : Float) (i : ℕ) → i + 1 < length nodes2 → segment_at nodes2 values cdf w.offset w.four u i ≡ segment_at nodes2 values' cdf' w.offset w.four u i
  unfolding segment_at
  segment_same u i l =
      rw (
        same_values i (omega arith),
        same_values (i + 1) l,
        before_same nodes2 (interpolate values m w.offset w.four) (interpolate values' m w.offset w.four) i same_values l,
        after_same nodes2 (interpolate values m w.offset w.four) (interpolate values' m w.offset w.four) i same_values l,
        same_cdf i (omega arith),
      )

  pub draw_same : (u : Float) (allowance : ℕ) → draw_from nodes2 values cdf (Some w) u allowance ≡ draw_from nodes2 values' cdf' (Some w) u allowance
  unfolding draw_from draw
  draw_same u allowance =
      let target = u ⊗ interpolate cdf' m w.offset w.four (m - 1) in
      let i = blend_interval cdf' m w.offset w.four target in
      rw (same_cdf (m - 1) (omega arith), interval_same target, segment_same target i (omega (arith, blend_bound cdf' m w.offset w.four target)))
