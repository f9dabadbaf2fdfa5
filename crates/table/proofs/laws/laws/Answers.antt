-- `laws` meets its contract: it is the record of the laws.
use Rattle.table.proofs.TableLaws.{table_laws}
use Rattle.table.proofs.laws.laws.Goals as goal

pub returns : goal.returns
returns c = table_laws
