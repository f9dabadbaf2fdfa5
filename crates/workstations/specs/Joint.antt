-- The joint claim (specification, section 12.3): statements over whole lists of calls from any two workstations. `Joint` is the contract of a function, `joint`; what stands before it are its words.
-- After it, in the same words: that no accepted start is in vain (`Progress`, the contract of `progress`; specification, section 12.4).
-- An equation of floats or lists means the same bits, any NaN equal to any NaN (`Notation` of `elementary`).
use Rattle.std.specs.Prelude.{ℕ, ◌≤◌, ◌<◌, ◌≡◌, ◌↔◌, true, false, cond, List, ◌∷◌, ltb, Float}
use Rattle.answers.specs.Answer.{Answer, refusal}
use Rattle.interpolation.specs.Checks.{check10}
use Rattle.scattering.specs.declared.spectrum.RGBEnum.{RGBEnum}
use Rattle.table.specs.Parameters.{RecordHolds, Lists, Effect, done}
use Rattle.table.specs.Starting.{start}
use Rattle.table.specs.Sets.{Rows, table_of}
use Rattle.table.specs.declared.parameters.Record.{Record}
use Rattle.bssrdf.specs.Needed.{among}
use Rattle.bssrdf.specs.declared.coefficients.Coefficients.{Coefficients}
use Rattle.workstations.specs.Calls.{Query, SampleSr, Call, Build, Ask, needed_rows, order_number, argument_number, ask, step, Run, run}
use Rattle.workstations.specs.Tally.{Fed, StartOf, rows_built, tallied}

-- ---- a workstation with the record r: an opening, and any list of calls

-- how its list of calls is opened: by a start that is accepted, on lent lists of any contents
pub data Opening (r : Record) : Type 0 where
  by_start : (lent : Lists) → (start r lent).answer ≡ done → Opening r

pub record Workstation (r : Record) : Type 0 where
  pub opening : Opening r
  pub calls : List Call

-- what the opening does, and what of it the tally is fed: no list
abbrev pub opened : (r : Record) → Opening r → Effect
opened r (by_start lent accepted) = start r lent

abbrev pub fed : (r : Record) → Opening r → Fed
fed r (by_start lent accepted) = StartOf r

-- the opening, and then each call on the lists as the one before left them: all answers, and the table after the last
abbrev pub session : (r : Record) → Workstation r → Run
session r w =
    let first = opened r w.opening in
    let rest = run r first.lists w.calls in
    record { answers = first.answer ∷ rest.answers; lists = rest.lists }

abbrev pub table_after : (r : Record) → Workstation r → Lists
table_after r w = (session r w).lists

-- the rows built by its list: the tally's set after it
abbrev pub rows_of : (r : Record) → Workstation r → Rows
rows_of r w = rows_built (fed r w.opening) w.calls

-- ---- words

-- every row of the first set is one of the second
abbrev pub Includes : Rows → Rows → Type 0
Includes S₁ S₂ = (k : ℕ) → S₁ k ≡ true → S₂ k ≡ true

-- the two sets have the same rows
abbrev pub SameRows : Rows → Rows → Type 0
SameRows S₁ S₂ = (k : ℕ) → S₁ k ≡ true ↔ S₂ k ≡ true

-- an answer is a value: it is no refusal, and a refusal is none whatever its number, 0 too
abbrev pub IsValue : Answer → Type 0
IsValue a = a.refused ≡ false

-- p is the query q, or q with any accepted allowance at least as large
pub data Allows : Query → Query → Type 0 where
  same : (q : Query) → Allows q q
  larger : (ch : RGBEnum) (c : Coefficients) (u : Float) (allowance other : ℕ) → allowance ≤ other → check10 other ≡ 0 → Allows (SampleSr ch c u allowance) (SampleSr ch c u other)

-- ---- the claim

-- (a) each answer, and the table after, are those of the tally
abbrev pub IsTally : Type 0
IsTally = (r : Record) (w : Workstation r) → ((session r w).answers ≡ tallied (fed r w.opening) w.calls) × (table_after r w ≡ table_of r (rows_of r w))

-- (b) where the second's rows include the first's, a query with a value on the first's table gets that value, with its rounds, on both; on the second's with any accepted allowance at least as large
abbrev pub Agreement : Type 0
Agreement = (r : Record) (w₁ w₂ : Workstation r) → Includes (rows_of r w₁) (rows_of r w₂) → (q p : Query) → Allows q p
    → let a = ask r (table_after r w₁) q in IsValue a → ((step r (table_after r w₁) (Ask q)).answer ≡ a) × ((step r (table_after r w₂) (Ask p)).answer ≡ a)

-- (c) equal sets of built rows mean equal tables
abbrev pub SameTables : Type 0
SameTables = (r : Record) (w₁ w₂ : Workstation r) → SameRows (rows_of r w₁) (rows_of r w₂) → table_after r w₁ ≡ table_after r w₂

-- (d) a query in order, which no check before 11 refuses, gets 11 exactly when a row that it needs is then unbuilt
abbrev pub RowMissing : Type 0
RowMissing = (r : Record) (w : Workstation r) (q : Query) → order_number r (table_after r w) q ≡ 0
    → ((step r (table_after r w) (Ask q)).answer ≡ refusal 11) ↔ ((k : ℕ) × (among (needed_rows r (table_after r w) q) k ≡ true) × (rows_of r w k ≡ false))

-- (e) a refused call changes no list, whatever the lists hold
abbrev pub Keeps : Type 0
Keeps = (r : Record) (t : Lists)
    → ((start r t).answer.refused ≡ true → (start r t).lists ≡ t) × ((c : Call) → (step r t c).answer.refused ≡ true → (step r t c).lists ≡ t)

pub record Joint : Type 0 where
  pub is_tally : IsTally
  pub agreement : Agreement
  pub same_tables : SameTables
  pub row_missing : RowMissing
  pub keeps : Keeps

-- ---- no accepted start is in vain: what can be done with a table that was opened, whatever calls came before
-- These statements, and these alone, suppose that the record's floats are values of binary32 (`RecordHolds`), as those of a record in the code are.

-- (f) a build is refused exactly if its row number is N or more, and then with 7
abbrev pub Builds : Type 0
Builds = (r : Record) → RecordHolds r → (w : Workstation r) (i : ℕ) → (step r (table_after r w) (Build i)).answer ≡ cond (ltb i r.n) done (refusal 7)

-- (g) the number that a query gets before 11 is that of its arguments alone
abbrev pub ByArguments : Type 0
ByArguments = (r : Record) → RecordHolds r → (w : Workstation r) (q : Query) → order_number r (table_after r w) q ≡ argument_number r q

-- (h) after every row has been built no query in order gets 11
abbrev pub NoneMissing : Type 0
NoneMissing = (r : Record) → RecordHolds r → (w : Workstation r) → ((k : ℕ) → k < r.n → rows_of r w k ≡ true)
    → (q : Query) → order_number r (table_after r w) q ≡ 0 → (step r (table_after r w) (Ask q)).answer ≡ refusal 11 → ⊥

pub record Progress : Type 0 where
  pub builds : Builds
  pub by_arguments : ByArguments
  pub none_missing : NoneMissing
