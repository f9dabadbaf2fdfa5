-- each radius after the first two is the former times 1.2
use Rattle.std.proofs.Common.{arith}
use Rattle.std.proofs.lemmas.Grind.{common_steps}
use Rattle.starting_nodes.proofs.NodeLists.{radius_next}
use Rattle.starting_nodes.proofs.nodes.radius_nodes.Goals as goal

pub loop-j-preserved : goal.loop-j-preserved
loop-j-preserved c = grind (arith, common_steps, radius_next)
