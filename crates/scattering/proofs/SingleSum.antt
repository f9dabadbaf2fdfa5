-- The sum of single scattering over lists is that of the definition: each list holds a step of the formula at every sample, so the sums agree addend by addend. Assumes nothing.
use mathlib.Core.Path.{◌≡◌, ◌∙◌, ap}
use mathlib.Core.List.{List, map}
use Prim.Native.Nat.{ℕ}
use lib.ListN.{length, get_or}
use lib.Ieee.{Float, nan, neg}
use Rattle.elementary.specs.Notation.{◌⊕◌, ◌⊖◌, ◌⊗◌, ◌⊘◌}
use Rattle.elementary.specs.Lists.{sum_to, list_of}
use Rattle.elementary.specs.Exponential.{exp}
use Rattle.elementary.proofs.Filled.{sum_to_same}
use Rattle.elementary.proofs.Listed.{get_or_listed, length_listed, mapped_listed, paired_listed}
use Rattle.scattering.specs.Literals.{one}
use Rattle.scattering.specs.Fresnel.{fr_dielectric}
use Rattle.scattering.specs.Phase.{phase_hg}
use Rattle.scattering.specs.Samples.{n_samples, sample_ln, sample_logs, distance}
use Rattle.scattering.specs.Single.{ss_term, ss_addend}

pub ss_sum : (sigma_t rho t_crit g eta r : Float) {logs ti d cosines left turned inward kept : List Float} → logs ≡ sample_logs
    → ti ≡ map (λ (l : Float). t_crit ⊖ l ⊘ sigma_t) logs
    → d ≡ map (distance r) ti
    → cosines ≡ list_of (length ti) (λ (k : ℕ). get_or ti k nan ⊘ get_or d k nan)
    → left ≡ map (λ (x : Float). exp (neg sigma_t ⊗ (x ⊕ t_crit))) d
    → turned ≡ map (λ (c : Float). phase_hg c g) cosines
    → inward ≡ map neg cosines
    → kept ≡ map (λ (c : Float). fr_dielectric c one eta) inward
    → sum_to (λ (k : ℕ). ss_term rho (get_or d k nan) (get_or cosines k nan) (get_or left k nan) (get_or turned k nan) (get_or kept k nan)) (length d) ≡ sum_to (ss_addend sigma_t rho t_crit g eta r) n_samples
unfolding sample_logs ss_addend
ss_sum sigma_t rho t_crit g eta r {logs = logs} {ti = ti} {d = d} {cosines = cosines} {left = left} {turned = turned} {inward = inward} {kept = kept} e0 e1 e2 e3 e4 e5 e6 e7 =
    let n = n_samples in
    let ti_is = mapped_listed _ n sample_ln logs ti e0 e1 in
    let d_is = mapped_listed (distance r) n _ ti d ti_is e2 in
    let pairs = paired_listed (λ (t u : Float). t ⊘ u) n _ _ ti d ti_is d_is in
    let cosines_are = e3 ∙ ap (λ (m : ℕ). list_of m (λ (k : ℕ). get_or ti k nan ⊘ get_or d k nan)) (length_listed n _ ti ti_is) ∙ pairs in
    let left_is = mapped_listed _ n _ d left d_is e4 in
    let turned_is = mapped_listed _ n _ cosines turned cosines_are e5 in
    let inward_is = mapped_listed neg n _ cosines inward cosines_are e6 in
    let kept_is = mapped_listed _ n _ inward kept inward_is e7 in
    ap (sum_to (λ (k : ℕ). ss_term rho (get_or d k nan) (get_or cosines k nan) (get_or left k nan) (get_or turned k nan) (get_or kept k nan))) (length_listed n _ d d_is)
    ∙ sum_to_same n _ _
    (λ k l.
    rw (
      get_or_listed n _ d d_is k l,
      get_or_listed n _ cosines cosines_are k l,
      get_or_listed n _ left left_is k l,
      get_or_listed n _ turned turned_is k l,
      get_or_listed n _ kept kept_is k l,
    ))
