-- The two node lists that a started table of a record has (specification, section 5): with the source's growth of 1.2 and decay of 8.
use Rattle.std.specs.Prelude.{List, Float}
use Rattle.elementary.specs.Lists.{list_of}
use Rattle.starting_nodes.specs.Nodes.{«1·2», eight, radius_sample, rho_sample}
use Rattle.table.specs.declared.parameters.Record.{Record}

unfoldable pub radius_samples : Record → List Float
radius_samples r = list_of r.m (radius_sample «1·2»)

unfoldable pub rho_samples : Record → List Float
rho_samples r = list_of r.n (rho_sample eight r.n)
