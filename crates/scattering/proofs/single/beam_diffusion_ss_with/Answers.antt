use Rattle.std.proofs.Common.{rules, ◌≡◌, Float, ℕ, length, get_or, ◌∙◌, ap}
use lib.Ieee.{nan, neg}
use Rattle.elementary.specs.Notation.{◌⊕◌, ◌⊖◌, ◌⊗◌, ◌⊘◌}
use Rattle.elementary.specs.Lists.{sum_to, list_of}
use Rattle.elementary.specs.Exponential.{exp}
use Rattle.scattering.specs.Literals.{hundred}
use Rattle.scattering.specs.Samples.{n_samples}
use Rattle.scattering.specs.Single.{ss_term, ss_addend, beam_diffusion_ss}
use Rattle.scattering.proofs.Steps.{step_after}
use Rattle.scattering.proofs.SingleSum.{ss_sum}
use Rattle.scattering.proofs.single.beam_diffusion_ss_with.Goals as goal

pub returns : goal.returns
unfolding beam_diffusion_ss n_samples
returns c =
    let g = c.args.g in
    let eta = c.args.eta in
    let r = c.args.r in
    let sigma_t = c.args.sigma_a ⊕ c.args.sigma_s in
    let rho = c.args.sigma_s ⊘ sigma_t in
    let t_crit = r ⊗ c.sqrt.result in
    let ti = c.map_into.new.out in
    let d = c.distances.new.out in
    let ti_is = c.map_into.ensures (λ (l : Float). t_crit ⊖ l ⊘ sigma_t) (λ x y p. search rules) in
    let quotient = λ (k : ℕ). get_or ti k nan ⊘ get_or d k nan in
    let all : 100 ≡ length ti = search rules in
    let cosines_are = c.zip_into.ensures quotient (λ k y l p. search rules) ∙ ap (λ (n : ℕ). list_of n quotient) all in
    let exponents = λ (x : Float). neg sigma_t ⊗ (x ⊕ t_crit) in
    let left_is = step_after exponents exp _ (c.map_into-2.ensures exponents (λ x y p. search rules)) c.exponentials.ensures in
    let inward_is = c.map_into-3.ensures neg (λ x y p. search rules) in
    let addend =
    λ (k : ℕ).
    ss_term rho (get_or d k nan) (get_or c.zip_into.new.out k nan) (get_or c.exponentials.new.xs k nan) (get_or c.phases.new.out k nan) (get_or c.fresnels.new.out k nan) in
    let long : 100 ≡ length d = search rules in
    let sum = c.sum_by.ensures addend (λ k y l p. search rules) ∙ ap (sum_to addend) long in
    let formula = ss_sum sigma_t rho t_crit g eta r c.args.logs.now.as_defined ti_is c.distances.ensures cosines_are left_is c.phases.ensures inward_is c.fresnels.ensures in
    ap (λ s. s ⊘ hundred) (sum ∙ formula)
    ∙ ap (λ (root : Float). sum_to (ss_addend sigma_t rho (r ⊗ root) g eta r) n_samples ⊘ hundred) c.sqrt.ensures.is
