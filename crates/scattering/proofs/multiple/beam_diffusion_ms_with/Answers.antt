use Rattle.std.proofs.Common.{rules, ◌≡◌, Float, ℕ, length, get_or, ◌∙◌, ap}
use lib.Ieee.{nan, neg}
use Rattle.elementary.specs.Notation.{◌⊕◌, ◌⊗◌, ◌⊘◌}
use Rattle.elementary.specs.Lists.{sum_to}
use Rattle.elementary.specs.Exponential.{exp}
use Rattle.elementary.proofs.Listed.{mapped_listed}
use Rattle.scattering.specs.Literals.{two, hundred}
use Rattle.scattering.specs.Samples.{n_samples}
use Rattle.scattering.specs.Multiple.{ms_term, ms_addend, beam_diffusion_ms}
use Rattle.scattering.proofs.Steps.{step_after}
use Rattle.scattering.proofs.MultipleSum.{ms_sum}
use Rattle.scattering.proofs.multiple.beam_diffusion_ms_with.Goals as goal

pub returns : goal.returns
unfolding beam_diffusion_ms n_samples
returns c =
    let p = c.new-p.result in
    let zr = c.map_into.new.out in
    let zv = c.map_into-2.new.out in
    let dr = c.distances.new.out in
    let dv = c.distances-2.new.out in
    let zr_is = c.map_into.ensures (λ (l : Float). neg l ⊘ p.sigmap_t) (λ x y q. search rules) in
    let zv_is = c.map_into-2.ensures (λ (z : Float). neg z ⊕ two ⊗ p.ze) (λ x y q. search rules) in
    let exponents = λ (x : Float). neg p.sigma_tr ⊗ x in
    let er_is = step_after exponents exp _ (c.map_into-3.ensures exponents (λ x y q. search rules)) c.exponentials.ensures in
    let ev_is = step_after exponents exp _ (c.map_into-4.ensures exponents (λ x y q. search rules)) c.exponentials-2.ensures in
    let kappa = λ (k : ℕ). neg two ⊗ p.sigmap_t ⊗ (get_or dr k nan ⊕ get_or zr k nan) in
    let ek_is = mapped_listed exp n_samples kappa _ _ (c.zip_into.ensures kappa (λ k y l q. search rules)) c.exponentials-3.ensures in
    let addend =
    λ (k : ℕ).
    ms_term p (get_or zr k nan) (get_or zv k nan) (get_or dr k nan) (get_or dv k nan) (get_or c.exponentials.new.xs k nan) (get_or c.exponentials-2.new.xs k nan) (get_or c.exponentials-3.new.xs k nan) in
    let long : 100 ≡ length zr = search rules in
    let sum = c.sum_by.ensures addend (λ k y l q. search rules) ∙ ap (sum_to addend) long in
    let formula = ms_sum p c.args.logs.now.as_defined zr_is zv_is c.distances.ensures c.distances-2.ensures er_is ev_is ek_is in
    ap (λ s. s ⊘ hundred) (sum ∙ formula)
    ∙ ap (λ q. sum_to (ms_addend q) n_samples ⊘ hundred) c.new-p.ensures
