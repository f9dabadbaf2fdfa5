use Rattle.std.proofs.Common.{rules, ◌≡◌, Float, ℕ, ◌<◌, length, get_or, ◌∙◌, arith}
use lib.Ieee.{nan}
use Rattle.elementary.specs.Root.{sqrt}
use Rattle.elementary.proofs.Listed.{get_or_listed, mapped_listed}
use Rattle.scattering.specs.Fresnel.{swapped, complement, sin_theta_i, sin_theta_t, cos_theta_t, fr_dielectric, reflected}
use Rattle.scattering.proofs.Steps.{step_after, step_at, step_listed}
use Rattle.scattering.proofs.fresnel.fresnels.Goals as goal

pub returns : goal.returns
unfolding sin_theta_i sin_theta_t cos_theta_t reflected fr_dielectric
returns c =
    let cosines = c.args.cosines.now in
    let long : length cosines ≡ length c.args.out.now = omega (arith, c.told-cosines, c.told-out) in
    let b = λ (x : Float). swapped x c.args.eta_i c.args.eta_t in
    let inside : (k : ℕ) → k < 100 → k < length cosines = (λ k l. omega (arith, c.told-cosines)) in
    let complements = λ (x : Float). complement (b x).cos_theta_i in
    let sines = step_after complements sqrt _ (c.map_into.ensures complements (λ x y p. search rules)) c.sqrt_each.ensures in
    let sine = λ (k : ℕ) (l : k < 100). step_at (λ (x : Float). sin_theta_i (b x)) _ sines k (inside k l) in
    let others = λ (k : ℕ). complement (sin_theta_t (b (get_or cosines k nan))) in
    let refracted = mapped_listed sqrt 100 others _ _ (c.zip_into.ensures others (λ k y l p. search (rules, sine k l))) c.sqrt_each-2.ensures in
    c.fill_by.ensures (λ (k : ℕ). fr_dielectric (get_or cosines k nan) c.args.eta_i c.args.eta_t)
    (λ k y l p.
    let below : k < 100 = omega (arith, c.told-out) in
    let cosine = get_or_listed 100 (λ (k : ℕ). sqrt (others k)) _ refracted k below in
    search (rules, sine k below, cosine))
    ∙ step_listed (λ (x : Float). fr_dielectric x c.args.eta_i c.args.eta_t) cosines (length c.args.out.now) long
