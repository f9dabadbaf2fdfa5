-- the list is filled so far
use Rattle.elementary.proofs.Filled.{Fills}
use Rattle.starting_nodes.specs.Nodes.{«1·2», radius_sample}
use Rattle.starting_nodes.proofs.nodes.radius_nodes.Given as goal

abbrev pub invariant-loop-j : goal.invariant-loop-j
invariant-loop-j l = Fills (radius_sample «1·2») l.radius_samples l.m l.j
