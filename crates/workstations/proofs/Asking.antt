-- What is asked of a query holds of each query, and a larger allowance keeps a drawn value. Assumes the laws of queries.
use mathlib.Core.Path.{◌≡◌, refl}
use mathlib.Core.Bool.{true}
use Rattle.table.specs.Parameters.{Lists}
use Rattle.table.specs.declared.parameters.Record.{Record}
use Rattle.bssrdf.specs.Drawing.{sample_sr}
use Rattle.bssrdf.specs.Laws.{Asks, QueryLaws}
use Rattle.workstations.specs.Calls.{Query, Sr, PdfSr, SampleSr, question, ask}
use Rattle.workstations.specs.Joint.{IsValue, Allows, same, larger}

module _ (laws : QueryLaws) (r : Record) where
  pub asks : (q : Query) → Asks r true (question r q)
  unfolding question
  asks (Sr c x) = laws.sr_asks r c x
  asks (PdfSr ch c x) = laws.pdf_asks r true ch c x
  asks (SampleSr ch c u allowance) = laws.sample_asks r true ch c u allowance

  pub ask_more : (t : Lists) (q p : Query) → Allows q p → IsValue (ask r t q) → ask r t p ≡ ask r t q
  unfolding ask question sample_sr
  ask_more t q p (same _) v = refl
  ask_more t q p (larger ch c u allowance other l o) v = laws.sample_more r t ch c u allowance other v l o
