-- The offered call `sw`, the Fresnel term of `TabulatedBssrdf` in bssrdf.rs (specification, section 8.9): the number of its refusal, and its value, a spectrum of three equal values.
use Rattle.std.specs.Prelude.{ℕ, [], ◌∷◌, Result, Float}
use Rattle.elementary.specs.Notation.{◌⊖◌, ◌⊗◌, ◌⊘◌}
use Rattle.elementary.specs.Constants.{pi}
use Rattle.answers.specs.Answer.{Answer, value, answered}
use Rattle.answers.specs.Checks.{first_of}
use Rattle.answers.specs.Refusal.{told}
use Rattle.answers.specs.declared.refusal.Refusal.{Refusal}
use Rattle.scattering.specs.Literals.{one, two}
use Rattle.scattering.specs.Fresnel.{fr_dielectric}
use Rattle.scattering.specs.Moments.{fresnel_moment1}
use Rattle.scattering.specs.Spectrum.{uniform, values}
use Rattle.scattering.specs.Checks.{check4, check9}
use Rattle.scattering.specs.declared.spectrum.Spectrum.{Spectrum}

-- the Rust's formula
unfoldable pub sw_value : Float → Float → Float
sw_value eta cosine =
    let c = one ⊖ two ⊗ fresnel_moment1 (one ⊘ eta) in
    (one ⊖ fr_dielectric cosine one eta) ⊘ (c ⊗ pi)

abbrev pub spectrum_value : Spectrum → Answer
spectrum_value s = value (values s) []

unfoldable pub sw_told : Result Spectrum Refusal → Answer
sw_told = told spectrum_value

unfoldable pub sw_number : Float → Float → ℕ
sw_number eta cosine = first_of (check4 eta ∷ check9 cosine ∷ [])

unfoldable pub sw : Float → Float → Answer
sw eta cosine = answered (sw_number eta cosine) (spectrum_value (uniform (sw_value eta cosine)))
