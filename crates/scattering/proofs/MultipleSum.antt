-- The sum of multiple scattering over lists is that of the definition, as in SingleSum. Assumes nothing.
use mathlib.Core.Path.{◌≡◌, ◌∙◌, ap}
use mathlib.Core.List.{List, map}
use Prim.Native.Nat.{ℕ}
use lib.ListN.{length, get_or}
use lib.Ieee.{Float, nan, neg}
use Rattle.elementary.specs.Notation.{◌⊕◌, ◌⊗◌, ◌⊘◌}
use Rattle.elementary.specs.Lists.{sum_to, list_of}
use Rattle.elementary.specs.Exponential.{exp}
use Rattle.elementary.proofs.Filled.{sum_to_same}
use Rattle.elementary.proofs.Listed.{get_or_listed, length_listed, mapped_listed, paired_listed}
use Rattle.scattering.specs.Literals.{two}
use Rattle.scattering.specs.Samples.{n_samples, sample_ln, sample_logs, distance}
use Rattle.scattering.specs.Multiple.{ms_term, ms_addend}
use Rattle.scattering.specs.declared.multiple.Dipole.{Dipole}

pub ms_sum : (p : Dipole) {logs zr zv dr dv er ev ek : List Float} → logs ≡ sample_logs
    → zr ≡ map (λ (l : Float). neg l ⊘ p.sigmap_t) logs
    → zv ≡ map (λ (z : Float). neg z ⊕ two ⊗ p.ze) zr
    → dr ≡ map (distance p.r) zr
    → dv ≡ map (distance p.r) zv
    → er ≡ map (λ (x : Float). exp (neg p.sigma_tr ⊗ x)) dr
    → ev ≡ map (λ (x : Float). exp (neg p.sigma_tr ⊗ x)) dv
    → ek ≡ list_of n_samples (λ (k : ℕ). exp (neg two ⊗ p.sigmap_t ⊗ (get_or dr k nan ⊕ get_or zr k nan)))
    → sum_to (λ (k : ℕ). ms_term p (get_or zr k nan) (get_or zv k nan) (get_or dr k nan) (get_or dv k nan) (get_or er k nan) (get_or ev k nan) (get_or ek k nan)) (length zr) ≡ sum_to (ms_addend p) n_samples
unfolding sample_logs ms_addend
ms_sum p {logs = logs} {zr = zr} {zv = zv} {dr = dr} {dv = dv} {er = er} {ev = ev} {ek = ek} e0 e1 e2 e3 e4 e5 e6 e7 =
    let n = n_samples in
    let zr_is = mapped_listed _ n sample_ln logs zr e0 e1 in
    let zv_is = mapped_listed _ n _ zr zv zr_is e2 in
    let dr_is = mapped_listed (distance p.r) n _ zr dr zr_is e3 in
    let dv_is = mapped_listed (distance p.r) n _ zv dv zv_is e4 in
    let er_is = mapped_listed _ n _ dr er dr_is e5 in
    let ev_is = mapped_listed _ n _ dv ev dv_is e6 in
    let ek_is = e7 ∙ paired_listed (λ (d z : Float). exp (neg two ⊗ p.sigmap_t ⊗ (d ⊕ z))) n _ _ dr zr dr_is zr_is in
    ap
    (sum_to (λ (k : ℕ). ms_term p (get_or zr k nan) (get_or zv k nan) (get_or dr k nan) (get_or dv k nan) (get_or er k nan) (get_or ev k nan) (get_or ek k nan)))
    (length_listed n _ zr zr_is)
    ∙ sum_to_same n _ _
    (λ k l.
    rw (
      get_or_listed n _ zr zr_is k l,
      get_or_listed n _ zv zv_is k l,
      get_or_listed n _ dr dr_is k l,
      get_or_listed n _ dv dv_is k l,
      get_or_listed n _ er er_is k l,
      get_or_listed n _ ev ev_is k l,
      get_or_listed n _ ek ek_is k l,
    ))
