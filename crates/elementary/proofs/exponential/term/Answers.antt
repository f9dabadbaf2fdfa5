-- a step on both lanes is the step on each (`two_terms`)
use Rattle.elementary.proofs.Pairs.{two_terms}
use Rattle.elementary.proofs.exponential.term.Goals as goal

pub returns : goal.returns
returns c = two_terms c.args.k c.args.y c.args.p c.fits-y.0
