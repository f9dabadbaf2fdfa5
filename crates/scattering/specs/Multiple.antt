-- `beam_diffusion_ms` of bssrdf.rs (specification, section 8.7): the light that is scattered many times and leaves at the distance r, by a dipole of sources for each depth.
use Rattle.std.specs.Prelude.{ℕ, Float}
use Rattle.std.specs.Float.Ieee.{neg}
use Rattle.elementary.specs.Notation.{◌⊕◌, ◌⊖◌, ◌⊗◌, ◌⊘◌}
use Rattle.elementary.specs.Constants.{inv_4_pi}
use Rattle.elementary.specs.Lists.{sum_to}
use Rattle.elementary.specs.Root.{sqrt}
use Rattle.elementary.specs.Exponential.{exp}
use Rattle.scattering.specs.Literals.{quarter, half, one, two, three, hundred}
use Rattle.scattering.specs.Moments.{fresnel_moment1, fresnel_moment2}
use Rattle.scattering.specs.Samples.{n_samples, sample_ln, distance}
use Rattle.scattering.specs.declared.multiple.Dipole.{Dipole}

-- what is worked out before the loop
unfoldable pub dipole : Float → Float → Float → Float → Float → Dipole
dipole sigma_s sigma_a g eta r =
    let sigmap_s = sigma_s ⊗ (one ⊖ g) in
    let sigmap_t = sigma_a ⊕ sigmap_s in
    let d_g = (two ⊗ sigma_a ⊕ sigmap_s) ⊘ (three ⊗ sigmap_t ⊗ sigmap_t) in
    let fm1 = fresnel_moment1 eta in
    let fm2 = fresnel_moment2 eta in
    record {
      r = r;
      sigmap_t = sigmap_t;
      rhop = sigmap_s ⊘ sigmap_t;
      d_g = d_g;
      sigma_tr = sqrt (sigma_a ⊘ d_g);
      ze = neg two ⊗ d_g ⊗ (one ⊕ three ⊗ fm2) ⊘ (one ⊖ two ⊗ fm1);
      c_phi = quarter ⊗ (one ⊖ two ⊗ fm1);
      c_e = half ⊗ (one ⊖ three ⊗ fm2);
    }

-- what a sample adds to the sum, by the depths of the real and the virtual source, their distances, their exponentials, and kappa's
unfoldable pub ms_term : Dipole → Float → Float → Float → Float → Float → Float → Float → Float
ms_term p zr zv dr dv er ev ek =
    let phi_d = inv_4_pi ⊘ p.d_g ⊗ (er ⊘ dr ⊖ ev ⊘ dv) in
    let ed_n = inv_4_pi ⊗ (zr ⊗ (one ⊕ p.sigma_tr ⊗ dr) ⊗ er ⊘ (dr ⊗ dr ⊗ dr) ⊖ zv ⊗ (one ⊕ p.sigma_tr ⊗ dv) ⊗ ev ⊘ (dv ⊗ dv ⊗ dv)) in
    let e = phi_d ⊗ p.c_phi ⊕ ed_n ⊗ p.c_e in
    let kappa = one ⊖ ek in
    kappa ⊗ p.rhop ⊗ p.rhop ⊗ e

-- what the sample i adds
unfoldable pub ms_addend : Dipole → ℕ → Float
ms_addend p i =
    let zr = neg (sample_ln i) ⊘ p.sigmap_t in
    let zv = neg zr ⊕ two ⊗ p.ze in
    let dr = distance p.r zr in
    let dv = distance p.r zv in
    let er = exp (neg p.sigma_tr ⊗ dr) in
    let ev = exp (neg p.sigma_tr ⊗ dv) in
    ms_term p zr zv dr dv er ev (exp (neg two ⊗ p.sigmap_t ⊗ (dr ⊕ zr)))

unfoldable pub beam_diffusion_ms : Float → Float → Float → Float → Float → Float
beam_diffusion_ms sigma_s sigma_a g eta r = sum_to (ms_addend (dipole sigma_s sigma_a g eta r)) n_samples ⊘ hundred
