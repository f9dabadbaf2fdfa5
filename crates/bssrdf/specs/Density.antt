-- The offered call `pdf_sr`, of `TabulatedBssrdf` in bssrdf.rs, in its order of operations (specification, section 10.6).
use Rattle.std.specs.Prelude.{ℕ, cond, List, [], ◌∷◌, ℤ, Float, Option, Some, None, Result}
use Rattle.std.specs.Float.Ieee.{eq}
use Rattle.elementary.specs.Notation.{◌⊕◌, ◌⊗◌, ◌⊘◌, lit}
use Rattle.elementary.specs.Sign.{max0}
use Rattle.answers.specs.Answer.{Answer, value}
use Rattle.answers.specs.Refusal.{told}
use Rattle.answers.specs.declared.refusal.Refusal.{Refusal}
use Rattle.interpolation.specs.Weights.{weight_at, over_four}
use Rattle.interpolation.specs.Blend.{interpolate}
use Rattle.interpolation.specs.declared.weights.Four.{Four}
use Rattle.interpolation.specs.declared.weights.Weights.{Weights}
use Rattle.scattering.specs.Spectrum.{channel}
use Rattle.scattering.specs.declared.spectrum.RGBEnum.{RGBEnum}
use Rattle.table.specs.Parameters.{Lists}
use Rattle.table.specs.declared.parameters.Record.{Record}
use Rattle.bssrdf.specs.Coefficients.{sigma_t}
use Rattle.bssrdf.specs.Axes.{optical_radius, albedo_weights, radius_weights}
use Rattle.bssrdf.specs.Needed.{pdf_rows}
use Rattle.bssrdf.specs.Checks.{query_number}
use Rattle.bssrdf.specs.Question.{Question, posed}
use Rattle.bssrdf.specs.Radiance.{eval_profile, cancelled}
use Rattle.bssrdf.specs.declared.coefficients.Coefficients.{Coefficients}
use Rattle.bssrdf.specs.declared.coefficients.WorldRadius.{WorldRadius}
use Rattle.bssrdf.specs.declared.coefficients.OpticalRadius.{OpticalRadius}

-- a place of the sum: it is skipped where the radius weight is zero, and so is a whole row where the albedo weight is
unfoldable pub add_term : Float → Float → Float → Float → Float
add_term rho_weight radius_weight entry v = cond (eq radius_weight (lit 0)) v (v ⊕ entry ⊗ rho_weight ⊗ radius_weight)

unfoldable pub add_entry : List Float → ℕ → ℤ → Four → ℤ → Four → ℕ → ℕ → Float → Float
add_entry profile m rho_offset f radius_offset g i j = add_term (weight_at f i) (weight_at g j) (eval_profile profile m rho_offset radius_offset i j)

unfoldable pub add_entries : List Float → ℕ → ℤ → Four → ℤ → Four → ℕ → Float → Float
add_entries profile m rho_offset f radius_offset g i v =
    cond (eq (weight_at f i) (lit 0)) v (over_four (add_entry profile m rho_offset f radius_offset g i) v)

unfoldable pub profile_sum : List Float → ℕ → ℤ → Four → ℤ → Four → Float
profile_sum profile m rho_offset f radius_offset g = over_four (add_entries profile m rho_offset f radius_offset g) (lit 0)

-- the effective albedos blended over the rows of nonzero weight: the list is a table with one column
unfoldable pub blended_albedo : List Float → ℤ → Four → Float
blended_albedo rho_eff rho_offset f = interpolate rho_eff 1 rho_offset f 0

-- a channel's density: 0 where the albedo or the radius is outside
unfoldable pub density_of : List Float → List Float → ℕ → Float → OpticalRadius → Option Weights → Option Weights → Float
density_of profile rho_eff m sigma_t x (Some w) (Some v) =
    max0 (cancelled x (profile_sum profile m w.offset w.four v.offset v.four) ⊗ sigma_t ⊗ sigma_t ⊘ blended_albedo rho_eff w.offset w.four)
density_of profile rho_eff m sigma_t x (Some w) None = lit 0
density_of profile rho_eff m sigma_t x None v = lit 0

unfoldable pub density_at : Record → Lists → RGBEnum → Coefficients → WorldRadius → Float
density_at r t ch c x =
    density_of t.profile t.rho_eff r.m (channel (sigma_t c) ch) (optical_radius c x ch) (albedo_weights t c ch) (radius_weights t c x ch)

-- ---- the call

unfoldable pub pdf_told : Result Float Refusal → Answer
pdf_told = told (λ v. value (v ∷ []) [])

-- 1 to 6 and 8; the rows of the channel; then its density
unfoldable pub pdf_question : Record → RGBEnum → Coefficients → WorldRadius → Lists → Question
pdf_question r ch c x t = record { order = query_number r t c; rows = pdf_rows t ch c x; built = value (density_at r t ch c x ∷ []) [] }

unfoldable pub pdf_sr : Record → Lists → RGBEnum → Coefficients → WorldRadius → Answer
pdf_sr r t ch c x = posed t.marks (pdf_question r ch c x t)
