-- A list of calls is the tally. Its opening leaves the table of the rows that the tally begins with, an accepted build on a set's table leaves the table of the set with that row, and a refused build and a query leave the table, as they leave the set;
-- so after each call the lists are the set's table, and the next call is answered on it. Assumes nothing.
use mathlib.Core.Path.{◌≡◌, refl, ap, ◌∙◌}
use mathlib.Core.List.{List, [], ◌∷◌}
use Prim.Native.Nat.{ℕ, zero, suc}
use Rattle.answers.specs.Answer.{Answer, written}
use Rattle.answers.proofs.Refusals.{not_refused, writes}
use Rattle.table.specs.Parameters.{Lists, lengths_of, done}
use Rattle.table.specs.Checks.{build_number}
use Rattle.table.specs.Starting.{started, start}
use Rattle.table.specs.Building.{built, build}
use Rattle.table.specs.Sets.{Rows, adding, table_of}
use Rattle.table.specs.declared.parameters.Record.{Record}
use Rattle.table.proofs.Refusals.{build_accepted}
use Rattle.table.proofs.TableLaws.{table_laws}
use Rattle.workstations.specs.Calls.{Call, Build, Ask, step, Run, run}
use Rattle.workstations.specs.Tally.{StartOf, record_fed, answer_fed, rows_fed, next, rows_after, answers_from, rows_built, tallied}
use Rattle.workstations.specs.Joint.{Opening, by_start, Workstation, opened, fed, table_after, rows_of, IsTally}

-- ---- one call on a set's table

module _ (r : Record) (S : Rows) where
  build_on : (i : ℕ) → (build r i (table_of r S)).lists ≡ table_of r (next r S (Build i))
  unfolding build next written
  build_on i = go (build_number r i _ _ _) refl
    where
      go : (k : ℕ) → build_number r i (table_of r S).rho_samples (table_of r S).radius_samples (lengths_of (table_of r S)) ≡ k
          → written k (built r i (table_of r S)) (table_of r S) ≡ table_of r (written k (adding i S) S)
      go zero e = table_laws.built_on r S i (build_accepted r i _ _ _ e).row
      go (suc k) e = refl

  step_on : (c : Call) → (step r (table_of r S) c).lists ≡ table_of r (next r S c)
  unfolding step next
  step_on (Build i) = build_on i
  step_on (Ask q) = refl

-- ---- a list of calls on a set's table

run_on : (r : Record) (S : Rows) (cs : List Call) → run r (table_of r S) cs ≡ record { answers = answers_from r S cs; lists = table_of r (rows_after r S cs) }
unfolding run answers_from rows_after
run_on r S [] = refl
run_on r S (c ∷ cs) = rw (step_on r S c, run_on r (next r S c) cs)

-- ---- from an opening on

-- an accepted start leaves the table of the rows that the tally begins with
started_on : (r : Record) (lent : Lists) → (start r lent).answer ≡ done → (start r lent).lists ≡ table_of r (rows_fed (StartOf r))
unfolding start
started_on r lent e = writes _ (started r) lent (not_refused _ done (ap (λ (a : Answer). a.refused) e)) ∙ table_laws.started_is r

opened_is : (r : Record) (o : Opening r) → (record_fed (fed r o) ≡ r) × ((opened r o).answer ≡ answer_fed (fed r o)) × ((opened r o).lists ≡ table_of r (rows_fed (fed r o)))
opened_is r (by_start lent accepted) = (refl, accepted, started_on r lent accepted)

module _ (r : Record) (w : Workstation r) where
  run_is : run r (opened r w.opening).lists w.calls ≡ record { answers = answers_from r (rows_fed (fed r w.opening)) w.calls; lists = table_of r (rows_of r w) }
  unfolding rows_built
  run_is = let o = opened_is r w.opening in rw (o.0, o.2) (run_on r (rows_fed (fed r w.opening)) w.calls)

  pub after_is : table_after r w ≡ table_of r (rows_of r w)
  after_is = ap (λ (x : Run). x.lists) run_is

pub is_tally : IsTally
unfolding tallied
is_tally r w =
    let o = opened_is r w.opening in
    (rw (o.0, o.1) (ap (λ (x : Run). answer_fed (fed r w.opening) ∷ x.answers) (run_is r w)), after_is r w)
