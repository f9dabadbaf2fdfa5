-- The offered call `sr`, of `TabulatedBssrdf` in bssrdf.rs, in its order of operations (specification, section 10.5).
use Rattle.std.specs.Prelude.{ℕ, ◌+◌, ◌*◌, Bool, cond, false, List, [], ℤ, get_or, Float, Option, Some, None, Result}
use Rattle.std.specs.Float.{nan, inf}
use Rattle.std.specs.Float.Ieee.{eq}
use Rattle.elementary.specs.Notation.{◌⊕◌, ◌⊗◌, ◌⊘◌, lit}
use Rattle.elementary.specs.Constants.{pi}
use Rattle.answers.specs.Answer.{Answer, answered}
use Rattle.answers.specs.Refusal.{told}
use Rattle.answers.specs.declared.refusal.Refusal.{Refusal}
use Rattle.interpolation.specs.Weights.{weight_at, over_four, four_of}
use Rattle.interpolation.specs.Blend.{row_of, InTable}
use Rattle.interpolation.specs.Laws.{Reach, Bounded}
use Rattle.interpolation.specs.declared.weights.Four.{Four}
use Rattle.interpolation.specs.declared.weights.Weights.{Weights}
use Rattle.scattering.specs.Literals.{two}
use Rattle.scattering.specs.Spectrum.{rgb, times, clamp}
use Rattle.scattering.specs.Exitance.{spectrum_value}
use Rattle.scattering.specs.declared.spectrum.Spectrum.{Spectrum}
use Rattle.scattering.specs.declared.spectrum.RGBEnum.{RGBEnum}
use Rattle.scattering.specs.declared.spectrum.RGBEnum.TheVariants.{Red, Green, Blue}
use Rattle.table.specs.Parameters.{Lists}
use Rattle.table.specs.declared.parameters.Record.{Record}
use Rattle.bssrdf.specs.Coefficients.{sigma_t, mean_free_paths}
use Rattle.bssrdf.specs.Axes.{optical_radius, albedo_weights, radius_weights, weights_by}
use Rattle.bssrdf.specs.Needed.{sr_rows}
use Rattle.bssrdf.specs.Checks.{check12, query_number}
use Rattle.bssrdf.specs.Question.{Question, posed}
use Rattle.bssrdf.specs.declared.coefficients.Coefficients.{Coefficients}
use Rattle.bssrdf.specs.declared.coefficients.WorldRadius.{WorldRadius}
use Rattle.bssrdf.specs.declared.coefficients.OpticalRadius.{OpticalRadius}

-- `eval_profile`: the entry of the albedo weight i and the radius weight j, in a profile with m radii. Either offset may be -1; the weight of that place is zero, and its entry is not read (`factors_nonzero` of proofs/Products)
unfoldable pub eval_profile : List Float → ℕ → ℤ → ℤ → ℕ → ℕ → Float
eval_profile profile m rho_offset radius_offset i j = get_or profile (row_of rho_offset i * m + row_of radius_offset j) nan

-- a place of the tensor spline: it is skipped where the product of its two weights is zero
unfoldable pub add_product : Float → Float → Float → Float → Float
add_product rho_weight radius_weight entry srf =
    let weight = rho_weight ⊗ radius_weight in
    cond (eq weight (lit 0)) srf (srf ⊕ weight ⊗ entry)

unfoldable pub add_cell : List Float → ℕ → ℤ → Four → ℤ → Four → ℕ → ℕ → Float → Float
add_cell profile m rho_offset f radius_offset g i j = add_product (weight_at f i) (weight_at g j) (eval_profile profile m rho_offset radius_offset i j)

-- the tensor spline
unfoldable pub tensor : List Float → ℕ → ℤ → Four → ℤ → Four → Float
tensor profile m rho_offset f radius_offset g =
    over_four (λ i. over_four (add_cell profile m rho_offset f radius_offset g i)) (lit 0)

-- the marginal factor of the profile cancelled: / (2.0 * PI * r_optical), unless that is 0
unfoldable pub cancelled : OpticalRadius → Float → Float
cancelled x v =
    let r = mean_free_paths x in
    cond (eq r (lit 0)) v (v ⊘ (two ⊗ pi ⊗ r))

-- a channel in optical units: 0 where the albedo or the radius is outside
unfoldable pub channel_sr : List Float → ℕ → OpticalRadius → Option Weights → Option Weights → Float
channel_sr profile m x (Some w) (Some v) = cancelled x (tensor profile m w.offset w.four v.offset v.four)
channel_sr profile m x (Some w) None = lit 0
channel_sr profile m x None v = lit 0

unfoldable pub channel_at : Record → Lists → Coefficients → WorldRadius → RGBEnum → Float
channel_at r t c x ch = channel_sr t.profile r.m (optical_radius c x ch) (albedo_weights t c ch) (radius_weights t c x ch)

-- in the world's units, before the clamp: times sigma_t * sigma_t
unfoldable pub unclamped : Record → Lists → Coefficients → WorldRadius → Spectrum
unclamped r t c x = times (rgb (channel_at r t c x Red) (channel_at r t c x Green) (channel_at r t c x Blue)) (times (sigma_t c) (sigma_t c))

-- ---- the call

unfoldable pub sr_told : Result Spectrum Refusal → Answer
sr_told = told spectrum_value

-- 1 to 6 and 8; the rows of all three channels; then 12, and the clamp of each channel from 0 on, which keeps a -0
unfoldable pub sr_question : Record → Coefficients → WorldRadius → Lists → Question
sr_question r c x t =
    let s = unclamped r t c x in
    record { order = query_number r t c; rows = sr_rows t c x; built = answered (check12 s) (spectrum_value (clamp s (lit 0) (inf false))) }

unfoldable pub sr : Record → Lists → Coefficients → WorldRadius → Answer
sr r t c x = posed t.marks (sr_question r c x t)

-- ---- what the contracts of its parts speak of

-- what reading asks for: the row of each nonzero albedo weight lies within the profile, the radius of each nonzero radius weight is one of the m, and the weights are finite, so that a product with a zero weight is zero
pub record Readable (profile : List Float) (m i : ℕ) (f : Four) (j : ℕ) (g : Four) : Type 0 where
  pub rows : InTable profile m i f
  pub radii : Reach g j m
  pub rho_bounded : Bounded f
  pub radius_bounded : Bounded g

-- the channel k of three, by what the code has of it on the two axes
abbrev pub channel_by : List Float → ℕ → OpticalRadius → List Bool → List ℕ → List (List Float) → List ℕ → List (List Float) → ℕ → Float
channel_by profile m x inside rho_at rho_weights radius_at radius_weights k =
    channel_sr profile m x (weights_by (get_or inside k false) (get_or rho_at k 0) (four_of (get_or rho_weights k [])))
    (weights_by (get_or inside k false) (get_or radius_at k 0) (four_of (get_or radius_weights k [])))
