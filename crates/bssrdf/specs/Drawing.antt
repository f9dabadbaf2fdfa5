-- The offered call `sample_sr`, of `TabulatedBssrdf` in bssrdf.rs, with an allowance of rounds (specification, section 10.7).
use Rattle.std.specs.Prelude.{ℕ, cond, [], ◌∷◌, pos, Float, Option, Some, None, Result}
use Rattle.std.specs.Float.Ieee.{eq, neg}
use Rattle.elementary.specs.Notation.{◌⊘◌, lit}
use Rattle.answers.specs.Answer.{Answer, value}
use Rattle.answers.specs.Refusal.{told}
use Rattle.answers.specs.declared.refusal.Refusal.{Refusal}
use Rattle.interpolation.specs.Sample.{sample_catmull_rom_2d}
use Rattle.interpolation.specs.declared.sample.Sample.{Sample}
use Rattle.scattering.specs.Literals.{one}
use Rattle.scattering.specs.Spectrum.{channel}
use Rattle.scattering.specs.declared.spectrum.RGBEnum.{RGBEnum}
use Rattle.table.specs.Parameters.{Lists}
use Rattle.table.specs.declared.parameters.Record.{Record}
use Rattle.bssrdf.specs.Coefficients.{sigma_t, rho}
use Rattle.bssrdf.specs.Needed.{sample_rows}
use Rattle.bssrdf.specs.Checks.{draw_number}
use Rattle.bssrdf.specs.Question.{Question, posed}
use Rattle.bssrdf.specs.declared.coefficients.Coefficients.{Coefficients}
use Rattle.bssrdf.specs.declared.drawing.Drawn.{Drawn}

-- a drawn radius and the rounds made
abbrev pub drawn_value : Float → ℕ → Answer
drawn_value radius rounds = value (radius ∷ []) (pos rounds ∷ [])

-- the position of a 2D draw divided by sigma_t, with its rounds; outside is position 0 with zero rounds, and 13 stays
unfoldable pub divided_value : Float → Option Sample → Answer
divided_value sigma_t (Some s) = drawn_value (s.position ⊘ sigma_t) s.rounds
divided_value sigma_t None = drawn_value (lit 0 ⊘ sigma_t) 0

unfoldable pub divided : Float → Result (Option Sample) Refusal → Answer
divided sigma_t = told (divided_value sigma_t)

-- -1 with zero rounds where sigma_t is 0
unfoldable pub drawn_at : Lists → RGBEnum → Coefficients → Float → ℕ → Answer
drawn_at t ch c u allowance =
    let sigma = channel (sigma_t c) ch in
    let sample = sample_catmull_rom_2d t.rho_samples t.radius_samples t.profile t.profile_cdf (channel (rho c) ch) u allowance in
    cond (eq sigma (lit 0)) (drawn_value (neg one) 0) (divided sigma sample)

-- ---- the call

unfoldable pub drawn_told : Result Drawn Refusal → Answer
drawn_told = told (λ d. drawn_value d.radius d.rounds)

-- 1 to 6 and 8 to 10; the rows by the albedo alone; then the draw, which may be refused with 13
unfoldable pub sample_question : Record → RGBEnum → Coefficients → Float → ℕ → Lists → Question
sample_question r ch c u allowance t = record { order = draw_number r t c u allowance; rows = sample_rows t ch c; built = drawn_at t ch c u allowance }

unfoldable pub sample_sr : Record → Lists → RGBEnum → Coefficients → Float → ℕ → Answer
sample_sr r t ch c u allowance = posed t.marks (sample_question r ch c u allowance t)
