-- The joint claim of workstations that accepted starts open, in plain words: the lent lists, that the start on them is accepted, and the calls (`joint_by_start`). It is `Joint` of the opening `by_start`; the tally's answers are "done" and then those on the table of no rows.
-- Values and refusals are told by the number, as a caller has it: 0 for a value, and above 0 for a refusal, since what a call answers is `Numbered`. Before it, what `question` says, case by case. `joint_by_start` assumes the laws of queries, and `claim`, of the laws as they are proved, nothing.
use mathlib.Core.Path.{◌≡◌, refl, ◌∙◌, subst}
use mathlib.Core.Logic.{◌↔◌}
use mathlib.Core.Bool.{true, false}
use mathlib.Core.List.{List, ◌∷◌}
use Prim.Native.Nat.{ℕ, ◌<◌}
use Rattle.answers.specs.Answer.{Answer, refusal}
use Rattle.answers.proofs.Numbers.{Numbered, value_numbered, answered_numbered}
use Rattle.table.specs.Parameters.{Lists, done}
use Rattle.table.specs.Starting.{start}
use Rattle.table.specs.Building.{build}
use Rattle.table.specs.Sets.{Rows, no_rows, table_of}
use Rattle.table.specs.declared.parameters.Record.{Record}
use Rattle.bssrdf.specs.Needed.{among, sr_rows, pdf_rows, sample_rows}
use Rattle.bssrdf.specs.Checks.{query_number, draw_number}
use Rattle.bssrdf.specs.Laws.{QueryLaws}
use Rattle.bssrdf.specs.Radiance.{sr_question, sr}
use Rattle.bssrdf.specs.Density.{pdf_question, pdf_sr}
use Rattle.bssrdf.specs.Drawing.{sample_question, sample_sr}
use Rattle.bssrdf.proofs.QueryLaws.{query_laws}
use Rattle.bssrdf.proofs.ByQuery.{sr_numbered, pdf_numbered, sample_numbered}
use Rattle.workstations.specs.Calls.{Query, Sr, PdfSr, SampleSr, Call, Build, Ask, question, needed_rows, order_number, ask, step, Run, run}
use Rattle.workstations.specs.Tally.{rows_after, answers_from, rows_built, tallied}
use Rattle.workstations.specs.Joint.{by_start, Workstation, Includes, SameRows, Allows, Joint}
use Rattle.workstations.proofs.JointClaim.{joint_from}

-- ---- a query, case by case: its answer, the rows that it needs, and the number of its checks before 11

abbrev pub answer_of : Record → Lists → Query → Answer
answer_of r t (Sr c x) = sr r t c x
answer_of r t (PdfSr ch c x) = pdf_sr r t ch c x
answer_of r t (SampleSr ch c u allowance) = sample_sr r t ch c u allowance

pub ask_is : (r : Record) (t : Lists) (q : Query) → ask r t q ≡ answer_of r t q
unfolding ask question sr pdf_sr sample_sr
ask_is r t (Sr c x) = refl
ask_is r t (PdfSr ch c x) = refl
ask_is r t (SampleSr ch c u allowance) = refl

abbrev pub rows_of_query : Lists → Query → List ℕ
rows_of_query t (Sr c x) = sr_rows t c x
rows_of_query t (PdfSr ch c x) = pdf_rows t ch c x
rows_of_query t (SampleSr ch c u allowance) = sample_rows t ch c

pub needed_rows_are : (r : Record) (t : Lists) (q : Query) → needed_rows r t q ≡ rows_of_query t q
unfolding question sr_question pdf_question sample_question
needed_rows_are r t (Sr c x) = refl
needed_rows_are r t (PdfSr ch c x) = refl
needed_rows_are r t (SampleSr ch c u allowance) = refl

abbrev pub checks_of_query : Record → Lists → Query → ℕ
checks_of_query r t (Sr c x) = query_number r t c
checks_of_query r t (PdfSr ch c x) = query_number r t c
checks_of_query r t (SampleSr ch c u allowance) = draw_number r t c u allowance

pub order_number_is : (r : Record) (t : Lists) (q : Query) → order_number r t q ≡ checks_of_query r t q
unfolding question sr_question pdf_question sample_question
order_number_is r t (Sr c x) = refl
order_number_is r t (PdfSr ch c x) = refl
order_number_is r t (SampleSr ch c u allowance) = refl

-- ---- a refusal has a number

pub ask_numbered : (r : Record) (t : Lists) (q : Query) → Numbered (ask r t q)
unfolding ask question sr pdf_sr sample_sr
ask_numbered r t (Sr c x) = sr_numbered r t c x
ask_numbered r t (PdfSr ch c x) = pdf_numbered r t ch c x
ask_numbered r t (SampleSr ch c u allowance) = sample_numbered r t ch c u allowance

pub step_numbered : (r : Record) (t : Lists) (c : Call) → Numbered (step r t c).answer
unfolding step build
step_numbered r t (Build i) = answered_numbered _ done (value_numbered _ _)
step_numbered r t (Ask q) = ask_numbered r t q

pub start_numbered : (r : Record) (t : Lists) → Numbered (start r t).answer
unfolding start
start_numbered r t = answered_numbered _ done (value_numbered _ _)

-- ---- workstations that accepted starts open

pub record Started (r : Record) : Type 0 where
  pub lent : Lists
  pub accepted : (start r lent).answer ≡ done
  pub calls : List Call

abbrev pub opened_by : {r : Record} → Started r → Workstation r
opened_by s = record { opening = by_start s.lent s.accepted; calls = s.calls }

-- the start, and then each call on the lists as the one before left them
abbrev pub run_of : (r : Record) → Started r → Run
run_of r s =
    let first = start r s.lent in
    let rest = run r first.lists s.calls in
    record { answers = first.answer ∷ rest.answers; lists = rest.lists }

abbrev pub lists_after : (r : Record) → Started r → Lists
lists_after r s = (run_of r s).lists

abbrev pub built_by : (r : Record) → Started r → Rows
built_by r s = rows_after r no_rows s.calls

pub record JointByStart : Type 0 where
  pub is_tally : (r : Record) (w : Started r) → ((run_of r w).answers ≡ done ∷ answers_from r no_rows w.calls) × (lists_after r w ≡ table_of r (built_by r w))
  pub agreement : (r : Record) (w₁ w₂ : Started r) → Includes (built_by r w₁) (built_by r w₂) → (q p : Query) → Allows q p
      → let a = answer_of r (lists_after r w₁) q in a.number ≡ 0 → ((step r (lists_after r w₁) (Ask q)).answer ≡ a) × ((step r (lists_after r w₂) (Ask p)).answer ≡ a)
  pub same_tables : (r : Record) (w₁ w₂ : Started r) → SameRows (built_by r w₁) (built_by r w₂) → lists_after r w₁ ≡ lists_after r w₂
  pub row_missing : (r : Record) (w : Started r) (q : Query) → checks_of_query r (lists_after r w) q ≡ 0
      → ((step r (lists_after r w) (Ask q)).answer ≡ refusal 11) ↔ ((k : ℕ) × (among (rows_of_query (lists_after r w) q) k ≡ true) × (built_by r w k ≡ false))
  pub keeps : (r : Record) (t : Lists) → (0 < (start r t).answer.number → (start r t).lists ≡ t) × ((c : Call) → 0 < (step r t c).answer.number → (step r t c).lists ≡ t)

module _ (laws : QueryLaws) where
  j : Joint
  j = joint_from laws

  agreement : (r : Record) (w₁ w₂ : Started r) → Includes (built_by r w₁) (built_by r w₂) → (q p : Query) → Allows q p
      → let a = answer_of r (lists_after r w₁) q in a.number ≡ 0 → ((step r (lists_after r w₁) (Ask q)).answer ≡ a) × ((step r (lists_after r w₂) (Ask p)).answer ≡ a)
  unfolding rows_built
  agreement r w₁ w₂ up q p al =
      subst (λ (a : Answer). a.number ≡ 0 → ((step r (lists_after r w₁) (Ask q)).answer ≡ a) × ((step r (lists_after r w₂) (Ask p)).answer ≡ a)) (ask_is r (lists_after r w₁) q)
      (λ v. j.agreement r (opened_by w₁) (opened_by w₂) up q p al ((ask_numbered r (lists_after r w₁) q).value_by_0 v))

  row_missing : (r : Record) (w : Started r) (q : Query) → checks_of_query r (lists_after r w) q ≡ 0
      → ((step r (lists_after r w) (Ask q)).answer ≡ refusal 11) ↔ ((k : ℕ) × (among (rows_of_query (lists_after r w) q) k ≡ true) × (built_by r w k ≡ false))
  unfolding rows_built
  row_missing r w q o =
      subst (λ (rows : List ℕ). ((step r (lists_after r w) (Ask q)).answer ≡ refusal 11) ↔ ((k : ℕ) × (among rows k ≡ true) × (built_by r w k ≡ false))) (needed_rows_are r (lists_after r w) q)
      (j.row_missing r (opened_by w) q (order_number_is r (lists_after r w) q ∙ o))

  pub joint_by_start : JointByStart
  unfolding tallied rows_built
  joint_by_start = record {
    is_tally = λ r w. j.is_tally r (opened_by w);
    agreement = agreement;
    same_tables = λ r w₁ w₂ e. j.same_tables r (opened_by w₁) (opened_by w₂) e;
    row_missing = row_missing;
    keeps = λ r t. ((λ h. (j.keeps r t).0 ((start_numbered r t).refused_above_0 h)), λ c h. (j.keeps r t).1 c ((step_numbered r t c).refused_above_0 h));
  }

-- with the laws of queries, as they are proved
pub claim : JointByStart
claim = joint_by_start query_laws
