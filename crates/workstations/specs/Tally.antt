-- The plain tally (specification, section 12.2). It is fed the start's record and the later calls' arguments alone, and keeps that record and a set of row numbers. The set's table is `table_of` of `table`.
use Rattle.std.specs.Prelude.{List, [], ◌∷◌}
use Rattle.answers.specs.Answer.{Answer, written}
use Rattle.table.specs.Parameters.{lengths_of, done}
use Rattle.table.specs.Checks.{build_number}
use Rattle.table.specs.Sets.{Rows, no_rows, adding, table_of}
use Rattle.table.specs.declared.parameters.Record.{Record}
use Rattle.workstations.specs.Calls.{Call, Build, Ask, step}

-- a build that is not refused adds its number; a refused one leaves the set as it is, and so does every query
unfoldable pub next : Record → Rows → Call → Rows
next r S (Build i) =
    let t = table_of r S in
    written (build_number r i t.rho_samples t.radius_samples (lengths_of t)) (adding i S) S
next r S (Ask q) = S

-- the set after a list of calls
unfoldable pub rows_after : Record → Rows → List Call → Rows
rows_after r S [] = S
rows_after r S (c ∷ cs) = rows_after r (next r S c) cs

-- the answer to each call: the refusal or the value that it has on the set's table as it stands before the call
unfoldable pub answers_from : Record → Rows → List Call → List Answer
answers_from r S [] = []
answers_from r S (c ∷ cs) = (step r (table_of r S) c).answer ∷ answers_from r (next r S c) cs

-- ---- what the tally is fed of how a list of calls is opened: that it is a start with this record. So the answer to it is "done", and the tally begins with no rows

pub data Fed : Type 0 where
  StartOf : Record → Fed

abbrev pub record_fed : Fed → Record
record_fed (StartOf r) = r

abbrev pub answer_fed : Fed → Answer
answer_fed (StartOf r) = done

abbrev pub rows_fed : Fed → Rows
rows_fed (StartOf r) = no_rows

-- ---- from an opening on: the rows built by a list of calls, and the answers to the opening and to each call

unfoldable pub rows_built : Fed → List Call → Rows
rows_built f calls = rows_after (record_fed f) (rows_fed f) calls

unfoldable pub tallied : Fed → List Call → List Answer
tallied f calls = answer_fed f ∷ answers_from (record_fed f) (rows_fed f) calls
