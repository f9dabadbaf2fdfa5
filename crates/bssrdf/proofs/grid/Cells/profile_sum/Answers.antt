-- `profile_sum` meets its contract: its steps are the rows of the definition.
use Rattle.std.proofs.Common.{arith}
use Rattle.interpolation.specs.Weights.{offset_of}
use Rattle.bssrdf.specs.Radiance.{eval_profile}
use Rattle.bssrdf.specs.Density.{profile_sum, add_entries, add_entry}
use Rattle.bssrdf.proofs.Cells.{reading}
use Rattle.bssrdf.proofs.grid.Cells.profile_sum.Goals as goal

pub returns : goal.returns
unfolding profile_sum add_entries add_entry eval_profile
returns c =
    let a = c.args.self in
    c.over_four.ensures (add_entries a.profile.now a.m (offset_of a.rho.interval) a.rho.four (offset_of a.radius.interval) a.radius.four) (λ k node v w l e p. grind (arith, reading))
