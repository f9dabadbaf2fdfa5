-- the mask has a bit for each node at or below x (`counted_at_most`)
use Rattle.interpolation.specs.Interval.{at_most}
use Rattle.interpolation.proofs.Lanes.{counted_at_most, few}
use Rattle.interpolation.proofs.interval.eight_at_most.Goals as goal

pub returns : goal.returns
returns c =
    let counted = counted_at_most c.args.nodes.now c.args.x c.args.i c.requires in
    (counted, rw counted (few (at_most c.args.nodes.now c.args.x) c.args.i))
