-- No accepted start is in vain. An opening's record has passed the checks 1 to 4, so check 6 passes the nodes of starting, and every set's table has them and the record's lengths: of the checks before 11 those of the arguments are left, 7 of a build and 8 to 10 of a query.
-- And a query needs none but the N rows, so that where all are built none is missing.
-- Assumes the laws of queries.
use mathlib.Core.Path.{◌≡◌, refl, sym, ap, ◌∙◌}
use mathlib.Core.Bool.{Bool, true, false, cond, true≢false}
use mathlib.Core.List.{List, [], ◌∷◌}
use Prim.Native.Nat.{ℕ}
use lib.Dec.{ltb}
use Rattle.answers.specs.Answer.{Answer, answered, written, refusal}
use Rattle.answers.specs.Checks.{unless_passed, first_of}
use Rattle.answers.proofs.Refusals.{first_last, nothing, not_refused}
use Rattle.table.specs.Parameters.{Lists, lengths_of, done}
use Rattle.table.specs.Checks.{check7, record_number, start_number, table_number, build_number}
use Rattle.table.specs.Starting.{start}
use Rattle.table.specs.Building.{build}
use Rattle.table.specs.Sets.{Rows, adding, table_with, table_of}
use Rattle.table.specs.declared.parameters.Record.{Record}
use Rattle.table.proofs.NodesPass.{record_passed}
use Rattle.table.proofs.TableLaws.{table_laws}
use Rattle.bssrdf.specs.Checks.{check8, query_number, draw_number}
use Rattle.bssrdf.specs.Question.{Question, posed}
use Rattle.bssrdf.specs.Radiance.{sr_question}
use Rattle.bssrdf.specs.Density.{pdf_question}
use Rattle.bssrdf.specs.Drawing.{sample_question}
use Rattle.bssrdf.specs.Laws.{QueryLaws}
use Rattle.workstations.specs.Calls.{Query, Sr, PdfSr, SampleSr, Call, Build, Ask, question, order_number, argument_number, ask, step}
use Rattle.workstations.specs.Tally.{next, rows_after, answers_from}
use Rattle.workstations.specs.Joint.{Opening, by_start, rows_of, Builds, ByArguments, NoneMissing, Progress}
use Rattle.workstations.proofs.Tallying.{after_is}
use Rattle.workstations.proofs.Asking.{asks}
use Rattle.workstations.proofs.Agreeing.{missing_on}

-- ---- the checks of a call on a set's table

past : (k : ℕ) → first_of (0 ∷ k ∷ []) ≡ k
unfolding first_of
past k = first_last k

-- a question with another number of the checks before 11
abbrev pub ordered : ℕ → Question → Question
ordered k q = record { order = k; rows = q.rows; built = q.built }

-- a query's answer by the checks of its arguments alone
abbrev pub asked : Record → Lists → Query → Answer
asked r t q = posed t.marks (ordered (argument_number r q) (question r q t))

module _ (r : Record) (h : record_number r ≡ 0) (S : Rows) where
  table_passes : table_number r (table_of r S).rho_samples (table_of r S).radius_samples (lengths_of (table_of r S)) ≡ 0
  unfolding table_of table_with start_number first_of
  table_passes = table_laws.never_6 r (lengths_of (table_of r S)) ∙ rw (h, table_laws.lengths_of_table r S) refl

  pub build_checks : (i : ℕ) → build_number r i (table_of r S).rho_samples (table_of r S).radius_samples (lengths_of (table_of r S)) ≡ check7 r i
  unfolding build_number
  build_checks i = rw table_passes (past (check7 r i))

  pub query_checks : (q : Query) → order_number r (table_of r S) q ≡ argument_number r q
  unfolding question sr_question pdf_question sample_question query_number draw_number argument_number
  query_checks (Sr c x) = rw table_passes (past (check8 c))
  query_checks (PdfSr ch c x) = rw table_passes (past (check8 c))
  query_checks (SampleSr ch c u allowance) = rw (table_passes, past (check8 c)) refl

  -- its answer on a set's table, then, without the checks before those of its arguments
  pub asked_on : (q : Query) → ask r (table_of r S) q ≡ asked r (table_of r S) q
  unfolding ask
  asked_on q = ap (λ (k : ℕ). posed (table_of r S).marks (ordered k (question r q (table_of r S)))) (query_checks q)

  build_answer : (i : ℕ) → (step r (table_of r S) (Build i)).answer ≡ cond (ltb i r.n) done (refusal 7)
  unfolding step build check7 answered
  build_answer i = rw (build_checks i) (go (ltb i r.n))
    where
      go : (b : Bool) → answered (unless_passed 7 b) done ≡ cond b done (refusal 7)
      go true = refl
      go false = refl

  next_set : (i : ℕ) → next r S (Build i) ≡ cond (ltb i r.n) (adding i S) S
  unfolding next check7 written
  next_set i = rw (build_checks i) (go (ltb i r.n))
    where
      go : (b : Bool) → written (unless_passed 7 b) (adding i S) S ≡ cond b (adding i S) S
      go true = refl
      go false = refl

-- ---- so the tally goes by record and arguments, and no list of its table's nodes need be checked

unfoldable pub set_by : Record → Rows → List Call → Rows
set_by r S [] = S
set_by r S (Build i ∷ cs) = set_by r (cond (ltb i r.n) (adding i S) S) cs
set_by r S (Ask q ∷ cs) = set_by r S cs

unfoldable pub answers_by : Record → Rows → List Call → List Answer
answers_by r S [] = []
answers_by r S (Build i ∷ cs) = cond (ltb i r.n) done (refusal 7) ∷ answers_by r (cond (ltb i r.n) (adding i S) S) cs
answers_by r S (Ask q ∷ cs) = asked r (table_of r S) q ∷ answers_by r S cs

module _ (r : Record) (h : record_number r ≡ 0) where
  pub set_is : (S : Rows) (cs : List Call) → rows_after r S cs ≡ set_by r S cs
  unfolding rows_after set_by next
  set_is S [] = refl
  set_is S (Build i ∷ cs) = rw (next_set r h S i) (set_is (cond (ltb i r.n) (adding i S) S) cs)
  set_is S (Ask q ∷ cs) = set_is S cs

  pub answers_are : (S : Rows) (cs : List Call) → answers_from r S cs ≡ answers_by r S cs
  unfolding answers_from answers_by step next
  answers_are S [] = refl
  answers_are S (Build i ∷ cs) = rw (build_answer r h S i, next_set r h S i) (ap (λ (xs : List Answer). cond (ltb i r.n) done (refusal 7) ∷ xs) (answers_are (cond (ltb i r.n) (adding i S) S) cs))
  answers_are S (Ask q ∷ cs) = rw (asked_on r h S q) (ap (λ (xs : List Answer). asked r (table_of r S) q ∷ xs) (answers_are S cs))

-- ---- a workstation's table

opened_in_range : (r : Record) → Opening r → record_number r ≡ 0
unfolding start
opened_in_range r (by_start lent accepted) = record_passed r (lengths_of lent) (nothing _ _ refl (not_refused _ done (ap (λ (a : Answer). a.refused) accepted)))

builds : Builds
builds r holds w i = rw (after_is r w) (build_answer r (opened_in_range r w.opening) (rows_of r w) i)

by_arguments : ByArguments
by_arguments r holds w q = rw (after_is r w) (query_checks r (opened_in_range r w.opening) (rows_of r w) q)

none_missing : QueryLaws → NoneMissing
unfolding step
none_missing laws r holds w all q = rw (after_is r w) go
  where
    go : order_number r (table_of r (rows_of r w)) q ≡ 0 → ask r (table_of r (rows_of r w)) q ≡ refusal 11 → ⊥
    go o h =
        let m = (missing_on laws r (rows_of r w) q o).0 h in
        true≢false (sym (all m.0 ((asks laws r q).rows_exist (table_of r (rows_of r w)) o m.0 m.1)) ∙ m.2)

pub progress_from : QueryLaws → Progress
progress_from laws = record { builds = builds; by_arguments = by_arguments; none_missing = none_missing laws }
