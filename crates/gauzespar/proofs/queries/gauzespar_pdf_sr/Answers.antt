-- `gauzespar_pdf_sr` meets its contract: its channel is that of the number.
use Rattle.gauzespar.specs.Calls.{pdf_sr}
use Rattle.gauzespar.proofs.Replies.{numbered_channel}
use Rattle.gauzespar.proofs.queries.gauzespar_pdf_sr.Goals as goal

pub returns : goal.returns
unfolding pdf_sr
returns c = rw (numbered_channel c.args.channel c.in-Ok.ch _ c.in-Ok.ensures, c.told.ensures, ← c.coefficients_of-c.ensures) c.write_pdf_sr.ensures
