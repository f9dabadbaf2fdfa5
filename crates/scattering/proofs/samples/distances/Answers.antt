use Rattle.std.proofs.Common.{rules, Float}
use Rattle.elementary.specs.Notation.{◌⊕◌, ◌⊗◌}
use Rattle.elementary.specs.Root.{sqrt}
use Rattle.scattering.specs.Samples.{distance}
use Rattle.scattering.proofs.Steps.{step_after}
use Rattle.scattering.proofs.samples.distances.Goals as goal

pub returns : goal.returns
unfolding distance
returns c =
    let squares = λ (z : Float). c.args.r ⊗ c.args.r ⊕ z ⊗ z in
    step_after squares sqrt _ (c.map_into.ensures squares (λ x y p. search rules)) c.sqrt_each.ensures
