-- `joint` meets its contract: the claim is proved in proofs/JointClaim from the laws of queries, which `bssrdf` proves.
use Rattle.bssrdf.proofs.QueryLaws.{query_laws}
use Rattle.workstations.proofs.JointClaim.{joint_from}
use Rattle.workstations.proofs.claim.joint.Goals as goal

pub returns : goal.returns
returns c = joint_from query_laws
