-- `sample_catmull_rom_2d` of interpolation.rs, in its order of operations, with an allowance of rounds (specification, section 9.7).
use Rattle.std.specs.Prelude.{ℕ, ◌+◌, ◌-◌, List, ℤ, get_or, length, Float, Option, Some, None, Result, Ok, Err}
use Rattle.std.specs.Float.{nan}
use Rattle.elementary.specs.Notation.{◌⊕◌, ◌⊖◌, ◌⊗◌, ◌⊘◌}
use Rattle.interpolation.specs.Weights.{catmull_rom_weights}
use Rattle.interpolation.specs.Slope.{width, slope_before, slope_after}
use Rattle.interpolation.specs.Blend.{interpolate, blend_interval}
use Rattle.interpolation.specs.Solve.{solve}
use Rattle.interpolation.specs.declared.weights.Four.{Four}
use Rattle.interpolation.specs.declared.weights.Weights.{Weights}
use Rattle.interpolation.specs.declared.solve.Segment.{Segment}
use Rattle.interpolation.specs.declared.solve.Solution.{Solution}
use Rattle.interpolation.specs.declared.sample.Sample.{Sample}
use Rattle.answers.specs.declared.refusal.Refusal.{Refusal}
use Rattle.answers.specs.declared.refusal.Refusal.TheVariants.{Exhausted}

-- the segment i of the blended values, and the target of its integral
unfoldable pub segment_at : List Float → List Float → List Float → ℤ → Four → Float → ℕ → Segment
segment_at nodes2 values cdf offset w u i =
    let m = length nodes2 in
    let f : ℕ → Float = interpolate values m offset w in
    record {
      f0 = f i;
      f1 = f (i + 1);
      d0 = slope_before nodes2 f i;
      d1 = slope_after nodes2 f i;
      u = (u ⊖ interpolate cdf m offset w i) ⊘ width nodes2 i;
    }

-- the answer, of a t found in the segment i: the position, the value there, the density and the rounds; or 13, the allowance being used up
unfoldable pub drawn : List Float → ℕ → Float → Option Solution → Result Sample Refusal
drawn nodes2 i maximum (Some s) = Ok (record { position = get_or nodes2 i nan ⊕ width nodes2 i ⊗ s.t; value = s.value; density = s.value ⊘ maximum; rounds = s.rounds })
drawn nodes2 i maximum None = Err Exhausted

-- the draw, of the rows that the weights w blend
unfoldable pub draw : List Float → List Float → List Float → Weights → Float → ℕ → Result Sample Refusal
draw nodes2 values cdf w u allowance =
    let m = length nodes2 in
    let maximum = interpolate cdf m w.offset w.four (m - 1) in
    let target = u ⊗ maximum in
    let i = blend_interval cdf m w.offset w.four target in
    drawn nodes2 i maximum (solve (segment_at nodes2 values cdf w.offset w.four target i) allowance)

-- the sample of a draw, which is none outside
abbrev pub some_drawn : Result Sample Refusal → Result (Option Sample) Refusal
some_drawn (Ok s) = Ok (Some s)
some_drawn (Err e) = Err e

unfoldable pub draw_from : List Float → List Float → List Float → Option Weights → Float → ℕ → Result (Option Sample) Refusal
draw_from nodes2 values cdf (Some w) u allowance = some_drawn (draw nodes2 values cdf w u allowance)
draw_from nodes2 values cdf None u allowance = Ok None

unfoldable pub sample_catmull_rom_2d : List Float → List Float → List Float → List Float → Float → Float → ℕ → Result (Option Sample) Refusal
sample_catmull_rom_2d nodes1 nodes2 values cdf alpha u allowance = draw_from nodes2 values cdf (catmull_rom_weights nodes1 alpha) u allowance
