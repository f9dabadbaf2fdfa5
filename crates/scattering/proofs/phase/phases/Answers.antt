use Rattle.std.proofs.Common.{rules, ◌≡◌, Float, ℕ, ◌<◌, length, get_or, ◌∙◌, arith}
use lib.Ieee.{nan}
use Rattle.elementary.specs.Root.{sqrt}
use Rattle.scattering.specs.Phase.{denom, phase_hg}
use Rattle.scattering.proofs.Steps.{step_after, step_at, step_listed}
use Rattle.scattering.proofs.phase.phases.Goals as goal

pub returns : goal.returns
unfolding denom phase_hg
returns c =
    let cosines = c.args.cosines.now in
    let long : length cosines ≡ length c.args.out.now = omega (arith, c.told-cosines, c.told-out) in
    let denoms = λ (x : Float). denom x c.args.g in
    let roots = step_after denoms sqrt _ (c.map_into.ensures denoms (λ x y p. search rules)) c.sqrt_each.ensures in
    c.zip_into.ensures (λ (k : ℕ). phase_hg (get_or cosines k nan) c.args.g)
    (λ k y l p.
    let inside : k < length cosines = omega (arith, long) in
    let root = step_at (λ (x : Float). sqrt (denoms x)) _ roots k inside in
    search (rules, root))
    ∙ step_listed (λ (x : Float). phase_hg x c.args.g) cosines (length c.args.out.now) long
