-- `progress` meets its contract: it is proved in proofs/Progressing from the laws of queries, which `bssrdf` proves.
use Rattle.bssrdf.proofs.QueryLaws.{query_laws}
use Rattle.workstations.proofs.Progressing.{progress_from}
use Rattle.workstations.proofs.claim.progress.Goals as goal

pub returns : goal.returns
returns c = progress_from query_laws
