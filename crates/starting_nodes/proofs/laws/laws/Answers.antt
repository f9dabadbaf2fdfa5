-- `laws` meets its contract: it is the record of the laws.
use Rattle.starting_nodes.proofs.NodeLaws.{node_laws}
use Rattle.starting_nodes.proofs.laws.laws.Goals as goal

pub returns : goal.returns
returns c = node_laws
