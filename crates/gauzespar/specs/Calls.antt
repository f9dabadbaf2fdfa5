-- The nine calls of the facade, each by the call that it makes (specification, section 14). What the facade adds are its output lists, whose lengths are checked with those of the other lists, and the channel as a number.
use Rattle.std.specs.Prelude.{◌&&◌, List, [], ◌∷◌, ℕ, zero, suc, eqb, Float, length}
use Rattle.answers.specs.Answer.{Answer, refusal}
use Rattle.answers.specs.Checks.{first_of}
use Rattle.interpolation.specs.Checks.{check1, check2}
use Rattle.interpolation.specs.Own as Own
use Rattle.scattering.specs.Checks.{check4}
use Rattle.scattering.specs.Exitance as Exitance
use Rattle.scattering.specs.Spectrum.{rgb}
use Rattle.scattering.specs.declared.spectrum.RGBEnum.{RGBEnum}
use Rattle.scattering.specs.declared.spectrum.RGBEnum.TheVariants.{Red, Green, Blue}
use Rattle.table.specs.Checks.{record_number}
use Rattle.table.specs.Parameters.{Lists}
use Rattle.table.specs.declared.parameters.Record.{Record}
use Rattle.bssrdf.specs.Radiance as Radiance
use Rattle.bssrdf.specs.Density as Density
use Rattle.bssrdf.specs.Drawing as Drawing
use Rattle.bssrdf.specs.declared.coefficients.Coefficients.{Coefficients}
use Rattle.bssrdf.specs.declared.coefficients.WorldRadius.{WorldRadius}
use Rattle.gauzespar.specs.Outputs.{fitted}

-- absorption and scattering, each in red, green and blue
abbrev pub coefficients_of : Float → Float → Float → Float → Float → Float → Coefficients
coefficients_of ar ag ab sr sg sb = record { sigma_a = rgb ar ag ab; sigma_s = rgb sr sg sb }

abbrev pub radius_of : Float → WorldRadius
radius_of radius = record { 0 = radius }

-- the number of a channel that is none of the three (specification, section 14.3): where a channel is an enum, no refusal is needed for it
unfoldable pub no_channel : ℕ
no_channel = 100

-- a call in one channel: 0 is red, 1 green and 2 blue
unfoldable pub in_channel : ℕ → (RGBEnum → Answer) → Answer
in_channel zero call = call Red
in_channel (suc zero) call = call Green
in_channel (suc (suc zero)) call = call Blue
in_channel (suc (suc (suc k))) call = refusal no_channel

-- ---- queries, with the lengths of their output lists

unfoldable pub sr : Record → Lists → Coefficients → Float → ℕ → Answer
sr r t c x radiance = fitted (eqb radiance 3) (record_number r) (Radiance.sr r t c (radius_of x))

unfoldable pub pdf_sr : Record → Lists → ℕ → Coefficients → Float → ℕ → Answer
pdf_sr r t channel c x density = in_channel channel (λ ch. fitted (eqb density 1) (record_number r) (Density.pdf_sr r t ch c (radius_of x)))

unfoldable pub sample_sr : Record → Lists → ℕ → Coefficients → Float → ℕ → ℕ → ℕ → Answer
sample_sr r t channel c u allowance drawn rounds =
    in_channel channel (λ ch. fitted (eqb drawn 1 && eqb rounds 1) (record_number r) (Drawing.sample_sr r t ch c u allowance))

-- ---- the Fresnel term

unfoldable pub sw : Float → Float → ℕ → Answer
sw eta cosine spectrum = fitted (eqb spectrum 3) (check4 eta) (Exitance.sw eta cosine)

-- ---- splines over a caller's own lists

unfoldable pub weights : List Float → Float → ℕ → ℕ → ℕ → Answer
weights nodes x inside offset four = fitted (eqb inside 1 && eqb offset 1 && eqb four 4) (check1 (length nodes)) (Own.weights nodes x)

-- whether there are weights: 1 inside the nodes and 0 outside
unfoldable pub inside_of : List Float → ℕ
inside_of [] = 0
inside_of (w ∷ ws) = 1

unfoldable pub integral : List Float → List Float → List Float → ℕ → Answer
integral nodes values cdf sum = fitted (eqb sum 1) (check1 (length nodes)) (Own.integral nodes values cdf)

unfoldable pub sample2d : List Float → List Float → List Float → List Float → Float → Float → ℕ → ℕ → ℕ → Answer
sample2d nodes1 nodes2 values cdf alpha u allowance sample rounds =
    fitted (eqb sample 3 && eqb rounds 1) (first_of (check1 (length nodes1) ∷ check2 (length nodes2) ∷ [])) (Own.sample2d nodes1 nodes2 values cdf alpha u allowance)
