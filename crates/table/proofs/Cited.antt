-- The laws by which the functions of src/ are proved: their attributes `tactic` name these sets. Assumes nothing.
use Rattle.answers.proofs.Results.{checking, calling}
use Rattle.interpolation.proofs.Refusals.{cells_small}
use Rattle.table.proofs.Literals.{lowest}
use Rattle.table.proofs.Parts.{put_back, read_back}
use Rattle.table.proofs.Refusals.{record_in_range, start_accepted, build_accepted}
use Rattle.table.proofs.Results.{effect_refused}

-- a chain of checks: the number of the first that refuses; past those before it, what they have let through
pub ruleset chains = (checking, record_in_range, start_accepted, cells_small, lowest)

-- a part of a list that is lent and comes back
pub ruleset parts = (put_back, read_back)

-- an offered call: its answer and its lists by the number of its checks
pub ruleset calls = (effect_refused, calling, start_accepted, build_accepted)
