-- The laws of queries. What is asked of a query holds of each of the three by `Same` and by `AfterChecks`; the laws of any query are those of `Answering`. Assumes nothing.
use mathlib.Core.Path.{ap}
use mathlib.Core.Bool.{Bool, true, false, false≢true}
use mathlib.Core.List.{[], ◌∷◌}
use Prim.Native.Nat.{ℕ}
use lib.Ieee.{Float, inf}
use Rattle.elementary.specs.Notation.{lit}
use Rattle.answers.specs.Answer.{Answer, value, answered}
use Rattle.answers.proofs.Refusals.{first_none}
use Rattle.scattering.specs.Spectrum.{clamp}
use Rattle.scattering.specs.Exitance.{spectrum_value}
use Rattle.scattering.specs.declared.spectrum.Spectrum.{Spectrum}
use Rattle.scattering.specs.declared.spectrum.RGBEnum.{RGBEnum}
use Rattle.table.specs.declared.parameters.Record.{Record}
use Rattle.bssrdf.specs.Checks.{check12, draw_number}
use Rattle.bssrdf.specs.Radiance.{unclamped, sr_question}
use Rattle.bssrdf.specs.Density.{pdf_question}
use Rattle.bssrdf.specs.Drawing.{sample_question}
use Rattle.bssrdf.specs.Laws.{Asks, QueryLaws}
use Rattle.bssrdf.specs.declared.coefficients.Coefficients.{Coefficients}
use Rattle.bssrdf.specs.declared.coefficients.WorldRadius.{WorldRadius}
use Rattle.bssrdf.proofs.Answering.{in_order, posed_same, posed_missing}
use Rattle.bssrdf.proofs.AfterChecks.{sr_rows_lem, pdf_rows_lem, sample_rows_lem, nan_number, drawn_number, sample_more}
use Rattle.bssrdf.proofs.Same.{number_same, draw_number_same, sr_rows_same, pdf_rows_same, sample_rows_same, density_same, unclamped_same, drawn_same}

sr_asks : (r : Record) (c : Coefficients) (x : WorldRadius) → Asks r true (sr_question r c x)
unfolding sr_question
sr_asks r c x = record {
  order_same = λ s t a. number_same r _ s t a c;
  rows_same = λ s t h o a. sr_rows_same r _ s t a c x;
  built_same = λ s t h o a. ap (λ (v : Spectrum). answered (check12 v) (spectrum_value (clamp v (lit 0) (inf false)))) (unclamped_same r s t c o x h a);
  rows_exist = λ t o k. sr_rows_lem r t c o k x;
  not_11 = λ t o m e. nan_number (unclamped r t c x) _ (ap (λ (v : Answer). v.number) e);
}

pdf_asks : (r : Record) (held : Bool) (ch : RGBEnum) (c : Coefficients) (x : WorldRadius) → Asks r held (pdf_question r ch c x)
unfolding pdf_question
pdf_asks r held ch c x = record {
  order_same = λ s t a. number_same r _ s t a c;
  rows_same = λ s t h o a. pdf_rows_same r _ s t a c ch x;
  built_same = λ s t h o a. ap (λ (v : Float). value (v ∷ []) []) (density_same r _ s t a c o ch x (λ k l. l));
  rows_exist = λ t o k. pdf_rows_lem r t c o k ch x;
  not_11 = λ t o m e. false≢true (ap (λ (v : Answer). v.refused) e);
}

sample_asks : (r : Record) (held : Bool) (ch : RGBEnum) (c : Coefficients) (u : Float) (allowance : ℕ) → Asks r held (sample_question r ch c u allowance)
unfolding sample_question draw_number
sample_asks r held ch c u allowance = record {
  order_same = λ s t a. draw_number_same r _ s t a c u allowance;
  rows_same = λ s t h o a. sample_rows_same r _ s t a c ch;
  built_same = λ s t h o a. drawn_same r s t ch c (first_none _ _ o).0 a u allowance;
  rows_exist = λ t o k. sample_rows_lem r t c (first_none _ _ o).0 k ch;
  not_11 = λ t o m e. drawn_number t ch c u allowance (ap (λ (v : Answer). v.number) e);
}

pub query_laws : QueryLaws
query_laws = record {
  sr_asks = sr_asks;
  pdf_asks = pdf_asks;
  sample_asks = sample_asks;
  same = posed_same;
  missing = posed_missing;
  in_order = in_order;
  sample_more = sample_more;
}

pub ruleset joint = (query_laws)
