-- a refusal leaves the list as it was
use Rattle.answers.specs.Refusal.{number_of}
use Rattle.answers.proofs.Results.{list_kept}
use Rattle.interpolation.specs.Own.{cdf_after}
use Rattle.interpolation.proofs.own.integrate.Goals as goal

pub returns-in_err-check_integral-clause-list : goal.returns-in_err-check_integral-clause-list
unfolding cdf_after number_of
returns-in_err-check_integral-clause-list c = list_kept _ _ _ _ c.in_err-check_integral.ensures
