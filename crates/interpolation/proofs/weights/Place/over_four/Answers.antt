-- `over_four` meets its contract: the node of step k has the number of the place's interval and k.
use Rattle.std.proofs.Common.{arith}
use Rattle.interpolation.proofs.Rows.{in_turn}
use Rattle.interpolation.proofs.weights.Place.over_four.Goals as goal

pub step-v0-requires : goal.step-v0-requires
step-v0-requires g c = c.requires 0 _ _ (omega arith) (omega arith)

pub step-v1-requires : goal.step-v1-requires
step-v1-requires g c = c.requires 1 _ _ (omega arith) (omega arith)

pub step-v2-requires : goal.step-v2-requires
step-v2-requires g c = c.requires 2 _ _ (omega arith) (omega arith)

pub step-requires : goal.step-requires
step-requires g c = c.requires 3 _ _ (omega arith) (omega arith)

pub returns : goal.returns
returns g c =
    λ s h.
    in_turn s c.args.start (h 0 _ _ _ (omega arith) (omega arith) c.step-v0.ensures) (h 1 _ _ _ (omega arith) (omega arith) c.step-v1.ensures) (h 2 _ _ _ (omega arith) (omega arith) c.step-v2.ensures) (h 3 _ _ _ (omega arith) (omega arith) c.step.ensures)
