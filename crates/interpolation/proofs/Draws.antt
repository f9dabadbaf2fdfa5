-- What a draw gives: a position, outside, or 13 and no other refusal. So whatever holds of these three holds of a draw (`of_draw`), and a refusal of the call on own lists has a number above 0 (`offered_numbered`). Assumes nothing.
use mathlib.Core.List.{List}
use Prim.Native.Nat.{ℕ}
use native.Mathlib.Omega.{arith}
use lib.Ieee.{Float}
use Rattle.answers.proofs.Numbers.{Numbered, value_numbered, refusal_numbered, answered_numbered}
use Rattle.interpolation.specs.Own.{sample_value, sample_told, sample2d}
use Rattle.interpolation.specs.Sample.{drawn, draw, some_drawn, draw_from, sample_catmull_rom_2d}
use Rattle.interpolation.specs.Weights.{catmull_rom_weights}
use Rattle.std.specs.Prelude.{Option, Some, None, Result, Ok, Err}
use Rattle.answers.specs.Refusal.{number, told}
use Rattle.answers.specs.declared.refusal.Refusal.{Refusal}
use Rattle.answers.specs.declared.refusal.Refusal.TheVariants.{Exhausted}
use Rattle.interpolation.specs.declared.weights.Weights.{Weights}
use Rattle.interpolation.specs.declared.solve.Solution.{Solution}
use Rattle.interpolation.specs.declared.sample.Sample.{Sample}

module _ (P : Result (Option Sample) Refusal → Type 0) (at : (s : Sample) → P (Ok (Some s))) (outside : P (Ok None)) (exhausted : P (Err Exhausted)) where
  by_solution : (nodes2 : List Float) (i : ℕ) (maximum : Float) (found : Option Solution) → P (some_drawn (drawn nodes2 i maximum found))
  unfolding drawn
  by_solution nodes2 i maximum (Some s) = at _
  by_solution nodes2 i maximum None = exhausted

  by_weights : (nodes2 values cdf : List Float) (w : Option Weights) (u : Float) (allowance : ℕ) → P (draw_from nodes2 values cdf w u allowance)
  unfolding draw_from draw
  by_weights nodes2 values cdf (Some w) u allowance = by_solution _ _ _ _
  by_weights nodes2 values cdf None u allowance = outside

  pub of_draw : (nodes1 nodes2 values cdf : List Float) (alpha u : Float) (allowance : ℕ) → P (sample_catmull_rom_2d nodes1 nodes2 values cdf alpha u allowance)
  unfolding sample_catmull_rom_2d
  of_draw nodes1 nodes2 values cdf alpha u allowance = by_weights nodes2 values cdf (catmull_rom_weights nodes1 alpha) u allowance

told_numbered : (nodes1 nodes2 values cdf : List Float) (alpha u : Float) (allowance : ℕ) → Numbered (sample_told (sample_catmull_rom_2d nodes1 nodes2 values cdf alpha u allowance))
unfolding sample_told sample_value told number
told_numbered = of_draw (λ s. Numbered (sample_told s)) (λ s. value_numbered _ _) (value_numbered _ _) (refusal_numbered 13 (omega arith))

pub offered_numbered : (nodes1 nodes2 values cdf : List Float) (alpha u : Float) (allowance : ℕ) → Numbered (sample2d nodes1 nodes2 values cdf alpha u allowance)
unfolding sample2d
offered_numbered nodes1 nodes2 values cdf alpha u allowance = answered_numbered _ _ (told_numbered nodes1 nodes2 values cdf alpha u allowance)
