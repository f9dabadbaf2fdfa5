-- The laws of questions, said of each query by its own name: they are those of `QueryLaws`, of the question that the query is. Beside them, that `sr` makes its checks in one row, 12 after 11 (`sr_in_a_row`), as the other two are defined;
-- and that a refusal of a query has a number above 0, so that a value may be told by the number, too (`sr_numbered`, `pdf_numbered`, `sample_numbered`). Assumes nothing.
use mathlib.Core.Path.{◌≡◌, refl, sym, subst}
use mathlib.Core.Bool.{true, false}
use mathlib.Core.Logic.{◌↔◌, inl, inr}
use mathlib.Core.List.{[], ◌∷◌}
use Prim.Native.Nat.{ℕ, zero, suc, ◌≤◌}
use native.Mathlib.Omega.{arith}
use lib.Ieee.{Float, inf}
use Rattle.elementary.specs.Notation.{lit}
use Rattle.answers.specs.Answer.{Answer, refusal, answered}
use Rattle.answers.specs.Checks.{first_of}
use Rattle.answers.proofs.Numbers.{Numbered, value_numbered, refusal_numbered, answered_numbered}
use Rattle.interpolation.specs.Checks.{check10}
use Rattle.scattering.specs.Spectrum.{clamp}
use Rattle.scattering.specs.Exitance.{spectrum_value}
use Rattle.scattering.specs.declared.spectrum.RGBEnum.{RGBEnum}
use Rattle.table.specs.Parameters.{Lists}
use Rattle.table.specs.declared.parameters.Record.{Record}
use Rattle.bssrdf.specs.Needed.{pdf_rows, sr_rows, sample_rows, among}
use Rattle.bssrdf.specs.Checks.{check11, check12, query_number, draw_number}
use Rattle.bssrdf.specs.Question.{posed}
use Rattle.bssrdf.specs.Radiance.{unclamped, sr_question, sr}
use Rattle.bssrdf.specs.Density.{density_at, pdf_question, pdf_sr}
use Rattle.bssrdf.specs.Drawing.{drawn_at, sample_question, sample_sr}
use Rattle.bssrdf.specs.Laws.{Alike, NodesHold, Missing}
use Rattle.bssrdf.specs.declared.coefficients.Coefficients.{Coefficients}
use Rattle.bssrdf.specs.declared.coefficients.WorldRadius.{WorldRadius}
use Rattle.bssrdf.proofs.AfterChecks.{value_or_13}
use Rattle.bssrdf.proofs.QueryLaws.{query_laws}

-- ---- a query depends on the rows that it needs alone: its answer is the same on tables alike in these

pub sr_same : (r : Record) (s t : Lists) (c : Coefficients) (x : WorldRadius) → NodesHold s → Alike r (among (sr_rows s c x)) s t → sr r s c x ≡ sr r t c x
unfolding sr sr_question
sr_same r s t c x h a = query_laws.same r true (sr_question r c x) (query_laws.sr_asks r c x) s t h a

pub pdf_same : (r : Record) (s t : Lists) (ch : RGBEnum) (c : Coefficients) (x : WorldRadius) → Alike r (among (pdf_rows s ch c x)) s t → pdf_sr r s ch c x ≡ pdf_sr r t ch c x
unfolding pdf_sr pdf_question
pdf_same r s t ch c x a = query_laws.same r false (pdf_question r ch c x) (query_laws.pdf_asks r false ch c x) s t tt a

pub sample_same : (r : Record) (s t : Lists) (ch : RGBEnum) (c : Coefficients) (u : Float) (allowance : ℕ) → Alike r (among (sample_rows s ch c)) s t
    → sample_sr r s ch c u allowance ≡ sample_sr r t ch c u allowance
unfolding sample_sr sample_question
sample_same r s t ch c u allowance a = query_laws.same r false (sample_question r ch c u allowance) (query_laws.sample_asks r false ch c u allowance) s t tt a

-- ---- where no check before 11 refuses, 11 is given exactly if a needed row isn't marked built

pub sr_missing : (r : Record) (t : Lists) (c : Coefficients) (x : WorldRadius) → query_number r t c ≡ 0 → (sr r t c x ≡ refusal 11) ↔ Missing t.marks (sr_rows t c x)
unfolding sr sr_question
sr_missing r t c x o = query_laws.missing t.marks (sr_question r c x t) o ((query_laws.sr_asks r c x).not_11 t o)

pub pdf_missing : (r : Record) (t : Lists) (ch : RGBEnum) (c : Coefficients) (x : WorldRadius) → query_number r t c ≡ 0 → (pdf_sr r t ch c x ≡ refusal 11) ↔ Missing t.marks (pdf_rows t ch c x)
unfolding pdf_sr pdf_question
pdf_missing r t ch c x o = query_laws.missing t.marks (pdf_question r ch c x t) o ((query_laws.pdf_asks r false ch c x).not_11 t o)

pub sample_missing : (r : Record) (t : Lists) (ch : RGBEnum) (c : Coefficients) (u : Float) (allowance : ℕ) → draw_number r t c u allowance ≡ 0
    → (sample_sr r t ch c u allowance ≡ refusal 11) ↔ Missing t.marks (sample_rows t ch c)
unfolding sample_sr sample_question
sample_missing r t ch c u allowance o = query_laws.missing t.marks (sample_question r ch c u allowance t) o ((query_laws.sample_asks r false ch c u allowance).not_11 t o)

-- ---- all checks of `sr` in one row

in_a_row : (a b c : ℕ) (v : Answer) → answered (first_of (a ∷ b ∷ [])) (answered c v) ≡ answered (first_of (a ∷ b ∷ c ∷ [])) v
unfolding first_of answered
in_a_row zero zero zero v = refl
in_a_row zero zero (suc c) v = refl
in_a_row zero (suc b) c v = refl
in_a_row (suc a) b c v = refl

pub sr_in_a_row : (r : Record) (t : Lists) (c : Coefficients) (x : WorldRadius)
    → sr r t c x
    ≡ answered (first_of (query_number r t c ∷ check11 t.marks (sr_rows t c x) ∷ check12 (unclamped r t c x) ∷ [])) (spectrum_value (clamp (unclamped r t c x) (lit 0) (inf false)))
unfolding sr sr_question posed
sr_in_a_row r t c x = in_a_row (query_number r t c) (check11 t.marks (sr_rows t c x)) (check12 (unclamped r t c x)) _

-- ---- a refusal has a number

pub sr_numbered : (r : Record) (t : Lists) (c : Coefficients) (x : WorldRadius) → Numbered (sr r t c x)
unfolding sr sr_question posed
sr_numbered r t c x = answered_numbered _ _ (answered_numbered (check12 (unclamped r t c x)) _ (value_numbered _ []))

pub pdf_numbered : (r : Record) (t : Lists) (ch : RGBEnum) (c : Coefficients) (x : WorldRadius) → Numbered (pdf_sr r t ch c x)
unfolding pdf_sr pdf_question posed
pdf_numbered r t ch c x = answered_numbered _ _ (value_numbered (density_at r t ch c x ∷ []) [])

drawn_numbered : (t : Lists) (ch : RGBEnum) (c : Coefficients) (u : Float) (allowance : ℕ) → Numbered (drawn_at t ch c u allowance)
drawn_numbered t ch c u allowance =
    elim (value_or_13 t ch c u allowance) [
      | inl e ↦ subst Numbered (sym e) (value_numbered _ _)
      | inr e ↦ subst Numbered (sym e) (refusal_numbered 13 (omega arith))
    ]

pub sample_numbered : (r : Record) (t : Lists) (ch : RGBEnum) (c : Coefficients) (u : Float) (allowance : ℕ) → Numbered (sample_sr r t ch c u allowance)
unfolding sample_sr sample_question posed
sample_numbered r t ch c u allowance = answered_numbered _ _ (drawn_numbered t ch c u allowance)

-- a value drawn under one allowance, told by its number, is the answer under every larger one that check 10 accepts
pub sample_more_by_number : (r : Record) (t : Lists) (ch : RGBEnum) (c : Coefficients) (u : Float) (allowance other : ℕ)
    → (sample_sr r t ch c u allowance).number ≡ 0 → allowance ≤ other → check10 other ≡ 0 → sample_sr r t ch c u other ≡ sample_sr r t ch c u allowance
sample_more_by_number r t ch c u allowance other h = query_laws.sample_more r t ch c u allowance other ((sample_numbered r t ch c u allowance).value_by_0 h)
