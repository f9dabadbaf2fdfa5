-- `four_at` sets the first weight to +0 where no node stands before the interval, and the last where none stands after it: so one that is not zero has its node.
-- The search's answer is at most n - 2 (`node_bound`), so the interval's own two nodes exist, and the offset is from -1 to n - 3. Assumes nothing.
use mathlib.Core.Path.{◌≡◌, refl, sym, ◌∙◌, subst}
use mathlib.Core.Bool.{Bool, true, false, cond, true≢false}
use mathlib.Core.Logic.{◌⊎◌, inl, inr}
use mathlib.Core.List.{List}
use Prim.Native.Nat.{ℕ, zero, suc, ◌+◌, ◌≤◌}
use native.Mathlib.Omega.{arith}
use borrow.Author.Tests.{ltb-true}
use lib.Dec.{ltb}
use lib.IntN.{pos, negsuc}
use Rattle.std.specs.Prelude.{Some, None}
use lib.ListN.{get_or, length}
use lib.Ieee.{Float, nan, inf, fin, eq, lt, le, of_bits}
use Rattle.elementary.specs.Notation.{lit}
use Rattle.interpolation.specs.Interval.{node_interval}
use Rattle.interpolation.specs.Weights.{four_at, offset_of, within, catmull_rom_weights}
use Rattle.interpolation.specs.Laws.{Reach}
use Rattle.interpolation.specs.declared.weights.Four.{Four}
use Rattle.interpolation.specs.declared.weights.Weights.{Weights}
use Rattle.interpolation.proofs.Bisection.{node_bound}

-- +0 equals +0
zero_is_zero : eq (lit 0) (lit 0) ≡ true
unfolding eq of_bits
zero_is_zero = refl

-- a value that is +0 unless b holds is not zero only where b holds
picked : (b : Bool) (v : Float) → eq (cond b v (lit 0)) (lit 0) ≡ false → b ≡ true
picked true v h = refl
picked false v h = absurd (true≢false (sym zero_is_zero ∙ h))

pub reach : (nodes : List Float) (x : Float) (i : ℕ) → i + 2 ≤ length nodes → Reach (four_at nodes x i) i (length nodes)
unfolding four_at
reach nodes x i h =
    let n = length nodes in
    record {
      first = λ w. ltb-true 0 i (picked (ltb 0 i) _ w);
      inside = h;
      last = λ w. omega (arith, ltb-true (i + 2) n (picked (ltb (i + 2) n) _ w));
    }

-- what an answer of `catmull_rom_weights` is
pub record Answer (nodes : List Float) (x : Float) (w : Weights) : Type 0 where
  pub is_within : within nodes x ≡ true
  pub offset : w.offset ≡ offset_of (node_interval nodes x)
  pub four : w.four ≡ four_at nodes x (node_interval nodes x)

pub answer : (nodes : List Float) (x : Float) (w : Weights) → catmull_rom_weights nodes x ≡ Some w → Answer nodes x w
unfolding catmull_rom_weights
answer nodes x w e = go (within nodes x) refl e
  where
    i : ℕ
    i = node_interval nodes x

    go : (b : Bool) → within nodes x ≡ b → cond b (Some (record { offset = offset_of i; four = four_at nodes x i })) None ≡ Some w → Answer nodes x w
    go true g h = record { is_within = g; offset = cc h; four = cc h }
    go false g h = let clash : true ≡ false = cc h in absurd (true≢false clash)

-- the same of an answer of `catmull_rom_weights`
pub reach_of_weights : (nodes : List Float) (x : Float) (w : Weights) → catmull_rom_weights nodes x ≡ Some w → 2 ≤ length nodes
    → (w.offset ≡ offset_of (node_interval nodes x)) × Reach w.four (node_interval nodes x) (length nodes)
reach_of_weights nodes x w e two =
    let a = answer nodes x w e in
    let i = node_interval nodes x in
    (a.offset, subst (λ (g : Four). Reach g i (length nodes)) (sym a.four) (reach nodes x i (omega (arith, node_bound nodes x))))

-- ---- the range of the offset, and what lies outside

-- from -1 to n - 3
pub offset_range : (nodes : List Float) (x : Float) (w : Weights) → catmull_rom_weights nodes x ≡ Some w → 2 ≤ length nodes
    → (w.offset ≡ negsuc 0) ⊎ ((k : ℕ) × (w.offset ≡ pos k) × (k + 3 ≤ length nodes))
unfolding offset_of
offset_range nodes x w e two = go (node_interval nodes x) (answer nodes x w e).offset (omega (arith, node_bound nodes x))
  where
    go : (i : ℕ) → w.offset ≡ offset_of i → i + 2 ≤ length nodes → (w.offset ≡ negsuc 0) ⊎ ((k : ℕ) × (w.offset ≡ pos k) × (k + 3 ≤ length nodes))
    go zero h l = inl h
    go (suc k) h l = inr (k, h, omega arith)

-- a value below the first node or above the last has no weights, and neither has a NaN
pub outside : (nodes : List Float) (x : Float) → within nodes x ≡ false → catmull_rom_weights nodes x ≡ None
unfolding catmull_rom_weights
outside nodes x h = rw h

at_most_nan : (a : Float) → le a nan ≡ false
unfolding le lt eq
at_most_nan nan = refl
at_most_nan (inf s) = refl
at_most_nan (fin s m e) = refl

pub nan_outside : (nodes : List Float) → catmull_rom_weights nodes nan ≡ None
unfolding within
nan_outside nodes = outside nodes nan (rw (at_most_nan (get_or nodes 0 nan)))
