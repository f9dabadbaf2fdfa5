-- What the proofs of the calls look into: the answers, and how each answer is told. A name here stands for all that its `unfolding` line names.
use Rattle.answers.specs.Answer.{answered, written}
use Rattle.answers.specs.Checks.{first_of}
use Rattle.answers.specs.Refusal.{number, number_of, told}
use Rattle.interpolation.specs.Own as Own
use Rattle.scattering.specs.Exitance as Exitance
use Rattle.table.specs.Parameters.{outcome_told}
use Rattle.table.specs.Starting.{start}
use Rattle.table.specs.Building.{build}
use Rattle.bssrdf.specs.Question.{posed}
use Rattle.bssrdf.specs.Radiance as Radiance
use Rattle.bssrdf.specs.Density as Density
use Rattle.bssrdf.specs.Drawing as Drawing
use Rattle.gauzespar.specs.Outputs.{fitted}
use Rattle.gauzespar.specs.Calls as Calls

unfoldable pub tables : Unit {0}
unfolding answered number_of told outcome_told start build
tables = tt

unfoldable pub queries : Unit {0}
unfolding answered written first_of fitted number number_of told posed Radiance.sr Radiance.sr_question Radiance.sr_told Density.pdf_sr Density.pdf_question Density.pdf_told Drawing.drawn_told Calls.no_channel Calls.in_channel Calls.sr Calls.pdf_sr Calls.sample_sr
queries = tt

unfoldable pub splines : Unit {0}
unfolding answered written first_of fitted number number_of told Exitance.sw Exitance.sw_told Own.weights Own.weights_told Own.weights_value Own.integral Own.integral_told Own.integral_value Own.cdf_after Own.sample_told Own.sample_value Calls.sw Calls.weights Calls.inside_of Calls.integral Calls.sample2d
splines = tt
