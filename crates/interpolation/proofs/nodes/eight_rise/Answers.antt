-- the mask has a bit for each node below the next (`counted_rises`)
use Rattle.interpolation.specs.Nodes.{rises}
use Rattle.interpolation.proofs.Lanes.{counted_rises, few}
use Rattle.interpolation.proofs.nodes.eight_rise.Goals as goal

pub returns : goal.returns
returns c =
    let counted = counted_rises c.args.nodes.now c.args.i c.requires in
    (counted, rw counted (few (rises c.args.nodes.now) c.args.i))
