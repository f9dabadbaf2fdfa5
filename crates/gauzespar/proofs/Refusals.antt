-- The answers below the checks are numbered: no refusal of theirs has the number 0. The weights refuse nothing, and a draw refuses by 13 alone. Assumes nothing.
use mathlib.Core.Path.{◌≡◌, refl, sym, subst}
use mathlib.Core.Logic.{inl, inr}
use mathlib.Core.List.{List, [], ◌∷◌}
use Prim.Native.Nat.{ℕ}
use native.Mathlib.Omega.{arith}
use lib.IntN.{pos}
use lib.ListN.{length, set}
use lib.Ieee.{Float}
use Rattle.answers.specs.Answer.{answered}
use Rattle.answers.specs.Refusal.{number, told}
use Rattle.interpolation.specs.Own.{weights_value, weights, sample_value, sample_told, sample2d}
use Rattle.interpolation.specs.Weights.{catmull_rom_weights}
use Rattle.interpolation.specs.declared.weights.Weights.{Weights}
use Rattle.std.specs.Prelude.{Option, Some, None}
use Rattle.interpolation.proofs.Draws.{of_draw}
use Rattle.scattering.specs.declared.spectrum.RGBEnum.{RGBEnum}
use Rattle.table.specs.Parameters.{Lists}
use Rattle.table.specs.declared.parameters.Record.{Record}
use Rattle.bssrdf.specs.Question.{posed}
use Rattle.bssrdf.specs.Drawing.{drawn_at, sample_question, sample_sr}
use Rattle.bssrdf.specs.declared.coefficients.Coefficients.{Coefficients}
use Rattle.bssrdf.proofs.AfterChecks.{value_or_13}
use Rattle.gauzespar.specs.Outputs.{over, wholes}
use Rattle.gauzespar.proofs.Replies.{Numbered, numbered}

-- ---- the weights refuse nothing

by_value : (w : Option Weights) → Numbered (weights_value w)
unfolding weights_value answered
by_value (Some w) = refl
by_value None = refl

pub numbered_weights : (nodes : List Float) (x : Float) → Numbered (weights nodes x)
unfolding weights
numbered_weights nodes x = numbered _ _ (by_value (catmull_rom_weights nodes x))

-- ---- draws

pub numbered_sample : (nodes1 nodes2 values cdf : List Float) (alpha u : Float) (allowance : ℕ) → Numbered (sample2d nodes1 nodes2 values cdf alpha u allowance)
unfolding sample2d sample_told sample_value told number answered
numbered_sample nodes1 nodes2 values cdf alpha u allowance = numbered _ _ (of_draw (λ s. Numbered (sample_told s)) (λ s. refl) refl refl nodes1 nodes2 values cdf alpha u allowance)

numbered_drawn : (t : Lists) (ch : RGBEnum) (c : Coefficients) (u : Float) (allowance : ℕ) → Numbered (drawn_at t ch c u allowance)
unfolding answered
numbered_drawn t ch c u allowance =
    elim (value_or_13 t ch c u allowance) [
      | inl e ↦ subst Numbered (sym e) refl
      | inr e ↦ subst Numbered (sym e) refl
    ]

pub numbered_sr : (r : Record) (t : Lists) (ch : RGBEnum) (c : Coefficients) (u : Float) (allowance : ℕ) → Numbered (sample_sr r t ch c u allowance)
unfolding sample_sr sample_question posed
numbered_sr r t ch c u allowance = numbered _ _ (numbered_drawn t ch c u allowance)

-- ---- the rounds, which are not signed, in a list of one

pub wholes_one : (old : List ℕ) (n : ℕ) → length old ≡ 1 → wholes (set old 0 n) ≡ over (pos n ∷ []) (wholes old)
wholes_one [] n h = absurd (omega arith)
wholes_one (y ∷ ys) n h = refl

pub ruleset of_draws = (numbered_sample, numbered_sr, wholes_one)
