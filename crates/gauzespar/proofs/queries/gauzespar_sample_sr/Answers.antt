-- `gauzespar_sample_sr` meets its contract: its channel is that of the number.
use Rattle.gauzespar.specs.Calls.{sample_sr}
use Rattle.gauzespar.proofs.Replies.{numbered_channel}
use Rattle.gauzespar.proofs.queries.gauzespar_sample_sr.Goals as goal

pub returns : goal.returns
unfolding sample_sr
returns c = rw (numbered_channel c.args.channel c.in-Ok.ch _ c.in-Ok.ensures, c.told.ensures, ← c.coefficients_of-c.ensures) c.write_sample_sr.ensures
