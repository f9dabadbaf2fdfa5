-- `beam_diffusion_ss` of bssrdf.rs (specification, section 8.6): the light that is scattered once and leaves at the distance r.
use Rattle.std.specs.Prelude.{ℕ, Float}
use Rattle.std.specs.Float.Ieee.{neg}
use Rattle.elementary.specs.Notation.{◌⊕◌, ◌⊖◌, ◌⊗◌, ◌⊘◌}
use Rattle.elementary.specs.Lists.{sum_to}
use Rattle.elementary.specs.Sign.{abs}
use Rattle.elementary.specs.Root.{sqrt}
use Rattle.elementary.specs.Exponential.{exp}
use Rattle.scattering.specs.Literals.{one, hundred}
use Rattle.scattering.specs.Fresnel.{fr_dielectric}
use Rattle.scattering.specs.Phase.{phase_hg}
use Rattle.scattering.specs.Samples.{n_samples, sample_ln, distance}

-- what a sample adds to the sum, by the exponential, the phase function and the Fresnel term
unfoldable pub ss_term : Float → Float → Float → Float → Float → Float → Float
ss_term rho d cos_theta_o attenuation phase fresnel = rho ⊗ attenuation ⊘ (d ⊗ d) ⊗ phase ⊗ (one ⊖ fresnel) ⊗ abs cos_theta_o

-- what the sample i adds
unfoldable pub ss_addend : Float → Float → Float → Float → Float → Float → ℕ → Float
ss_addend sigma_t rho t_crit g eta r i =
    let ti = t_crit ⊖ sample_ln i ⊘ sigma_t in
    let d = distance r ti in
    let cos_theta_o = ti ⊘ d in
    ss_term rho d cos_theta_o (exp (neg sigma_t ⊗ (d ⊕ t_crit))) (phase_hg cos_theta_o g) (fr_dielectric (neg cos_theta_o) one eta)

unfoldable pub beam_diffusion_ss : Float → Float → Float → Float → Float → Float
beam_diffusion_ss sigma_s sigma_a g eta r =
    let sigma_t = sigma_a ⊕ sigma_s in
    let rho = sigma_s ⊘ sigma_t in
    let t_crit = r ⊗ sqrt (eta ⊗ eta ⊖ one) in
    sum_to (ss_addend sigma_t rho t_crit g eta r) n_samples ⊘ hundred
