-- `tensor` meets its contract: its steps are the rows of the definition.
use Rattle.std.proofs.Common.{arith}
use Rattle.interpolation.specs.Weights.{offset_of, over_four}
use Rattle.bssrdf.specs.Radiance.{tensor, add_cell, eval_profile}
use Rattle.bssrdf.proofs.Cells.{reading}
use Rattle.bssrdf.proofs.grid.Cells.tensor.Goals as goal

pub returns : goal.returns
unfolding tensor add_cell eval_profile
returns c =
    let a = c.args.self in
    c.over_four.ensures (λ k. over_four (add_cell a.profile.now a.m (offset_of a.rho.interval) a.rho.four (offset_of a.radius.interval) a.radius.four k)) (λ k node v w l e p. grind (arith, reading))
