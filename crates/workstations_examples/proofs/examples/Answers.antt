-- `examples` meets its contract: the examples are proved in proofs/Computed.
use Rattle.workstations_examples.proofs.Computed.{examples_hold}
use Rattle.workstations_examples.proofs.examples.Goals as goal

pub returns : goal.returns
returns c = examples_hold
