-- Worked examples: lists of calls with their answers and the rows that they build, so the joint claim is about something. `Examples`, at the end, is the contract of a function, `examples`; what stands before it are its words.
use Rattle.std.specs.Prelude.{ℕ, ◌<◌, ◌≡◌, true, List, [], ◌∷◌, ◌++◌, eqb, Float}
use Rattle.std.specs.Float.Ieee.{neg}
use Rattle.elementary.specs.Notation.{lit}
use Rattle.answers.specs.Answer.{Answer, refusal, value}
use Rattle.scattering.specs.Literals.{half, one, two}
use Rattle.scattering.specs.Spectrum.{uniform, rgb, black}
use Rattle.scattering.specs.Exitance.{spectrum_value}
use Rattle.scattering.specs.declared.spectrum.RGBEnum.TheVariants.{Red, Green, Blue}
use Rattle.table.specs.Parameters.{Lists, record_of, lengths_of, done}
use Rattle.table.specs.Checks.{check5}
use Rattle.table.specs.Starting.{start}
use Rattle.table.specs.Sets.{Rows, table_of}
use Rattle.table.specs.declared.parameters.Record.{Record}
use Rattle.bssrdf.specs.Checks.{check11}
use Rattle.bssrdf.specs.Drawing.{drawn_value}
use Rattle.bssrdf.specs.declared.coefficients.Coefficients.{Coefficients}
use Rattle.bssrdf.specs.declared.coefficients.WorldRadius.{WorldRadius}
use Rattle.workstations.specs.Calls.{Query, Sr, PdfSr, SampleSr, Call, Build, Ask, needed_rows, order_number, argument_number, step, run}
use Rattle.workstations.specs.Tally.{StartOf, rows_built}
use Rattle.workstations.specs.Joint.{by_start, Workstation, session, table_after, IsValue}

-- N = 3, M = 2, g = 0, eta = 2: the albedo nodes are 0, about 0.982 and 1, the radius nodes 0 and 0.0025
abbrev pub three : Record
three = record_of 3 2 (lit 0) two

-- all three channels alike, by absorption and scattering
abbrev pub grey : Float → Float → Coefficients
grey absorption scattering = record { sigma_a = uniform absorption; sigma_s = uniform scattering }

-- albedo 1, albedo 0.5, and sigma_t of 0
abbrev pub white : Coefficients
white = grey (lit 0) one

abbrev pub middle : Coefficients
middle = grey one one

abbrev pub clear : Coefficients
clear = grey (lit 0) (lit 0)

-- albedo 1 in red, and 0.5 in green and blue
abbrev pub two_toned : Coefficients
two_toned = record { sigma_a = rgb (lit 0) one one; sigma_s = uniform one }

-- 2 to the -10, which is within the radius nodes times 1 and times 2, and 1, which is outside
abbrev pub near : WorldRadius
near = record { 0 = lit 0x3a80_0000 }

abbrev pub far : WorldRadius
far = record { 0 = one }

-- the set of row 2 alone, and its table
abbrev pub only_row2 : Rows
only_row2 k = eqb k 2

abbrev pub table_of_row2 : Lists
table_of_row2 = table_of three only_row2

-- a list with refused calls among it, a row built twice, and queries between the builds; none of its queries needs a profile entry
abbrev pub mixed : List Call
mixed =
    Build 2
    ∷ Build 7
    ∷ Ask (Sr middle near)
    ∷ Build 2
    ∷ Ask (SampleSr Green clear half 1)
    ∷ Ask (PdfSr Red white far)
    ∷ Ask (Sr white far)
    ∷ Ask (PdfSr Blue (grey (neg one) one) near)
    ∷ Ask (SampleSr Blue white two 1)
    ∷ Ask (SampleSr Blue white half 0)
    ∷ Ask (SampleSr Blue middle half 1)
    ∷ []

-- "done" to the start and to the builds of row 2; row 7 does not exist; albedo 0.5 lacks rows 0 and 1; a clear channel is drawn as -1 with zero rounds; far out density and radiance are 0; a negative coefficient, u of 2, no allowance; and a draw lacks rows too
abbrev pub mixed_answers : List Answer
mixed_answers =
    done
    ∷ done
    ∷ refusal 7
    ∷ refusal 11
    ∷ done
    ∷ drawn_value (neg one) 0
    ∷ value (lit 0 ∷ []) []
    ∷ spectrum_value black
    ∷ refusal 8
    ∷ refusal 9
    ∷ refusal 10
    ∷ refusal 11
    ∷ []

-- a list that builds every row
abbrev pub every_row : List Call
every_row = Build 0 ∷ Build 2 ∷ Build 1 ∷ []

-- a workstation whose start on these lent lists is accepted, and that makes these calls
abbrev pub starting : (lent : Lists) → (start three lent).answer ≡ done → List Call → Workstation three
starting lent accepted calls = record { opening = by_start lent accepted; calls = calls }

-- ---- the examples

-- the example of the specification (section 10.3): what queries need and get on the table of row 2 alone
pub record OnRow2 : Type 0 where
  -- albedo 1 needs row 2 alone, by each of its channels, and is in order, and passes check 11; its density is a value, read from row 2
  pub white_needs : needed_rows three table_of_row2 (Sr white near) ≡ 2 ∷ 2 ∷ 2 ∷ []
  pub white_in_order : order_number three table_of_row2 (Sr white near) ≡ 0
  pub white_passes : check11 table_of_row2.marks (needed_rows three table_of_row2 (Sr white near)) ≡ 0
  pub white_density : IsValue (step three table_of_row2 (Ask (PdfSr Red white near))).answer
  -- and albedo 0.5 gets 11, as rows 0 and 1 are needed too
  pub middle_needs : needed_rows three table_of_row2 (Sr middle near) ≡ 0 ∷ 1 ∷ 2 ∷ 0 ∷ 1 ∷ 2 ∷ 0 ∷ 1 ∷ 2 ∷ []
  pub middle_refused : (step three table_of_row2 (Ask (Sr middle near))).answer ≡ refusal 11
  -- a query needs the rows of the channels that it is about: in red those of albedo 1, in green those of albedo 0.5, and radiance those of all three
  pub red_needs : (needed_rows three table_of_row2 (PdfSr Red two_toned near) ≡ 2 ∷ []) × (needed_rows three table_of_row2 (SampleSr Red two_toned half 1) ≡ 2 ∷ [])
  pub green_needs : (needed_rows three table_of_row2 (PdfSr Green two_toned near) ≡ 0 ∷ 1 ∷ 2 ∷ []) × (needed_rows three table_of_row2 (SampleSr Green two_toned half 1) ≡ 0 ∷ 1 ∷ 2 ∷ [])
  pub red_density : IsValue (step three table_of_row2 (Ask (PdfSr Red two_toned near))).answer
  pub green_refused : (step three table_of_row2 (Ask (PdfSr Green two_toned near))).answer ≡ refusal 11
  pub two_toned_refused : (step three table_of_row2 (Ask (Sr two_toned near))).answer ≡ refusal 11

pub record Examples : Type 0 where
  -- a start is accepted on lists of any contents that have the record's lengths
  pub accepted : (t : Lists) → check5 three (lengths_of t) ≡ 0 → (start three t).answer ≡ done
  -- the example of the specification (section 10.3): after one build only row 2 is built, whatever the lists held before
  pub one_row : (k : ℕ) → rows_built (StartOf three) (Build 2 ∷ []) k ≡ only_row2 k
  pub one_table : (lent : Lists) (ok : (start three lent).answer ≡ done) → table_after three (starting lent ok (Build 2 ∷ [])) ≡ table_of_row2
  pub on_row_2 : OnRow2
  -- and there the answer to albedo 1 is not 11, but its radiance in each channel, and a radius drawn in one round, with these bits
  pub white_not_missing : (step three table_of_row2 (Ask (Sr white near))).answer ≡ refusal 11 → ⊥
  pub white_radiance : (step three table_of_row2 (Ask (Sr white near))).answer ≡ spectrum_value (uniform (lit 0x4138_a29c))
  pub white_drawn : (step three table_of_row2 (Ask (SampleSr Red white half 1))).answer ≡ drawn_value (lit 0x3ae7_b46a) 1
  -- the longer list, after any accepted start: its answers, and the table after it
  pub mixed_answers_lem : (lent : Lists) (ok : (start three lent).answer ≡ done) → (session three (starting lent ok mixed)).answers ≡ mixed_answers
  pub mixed_table : (lent : Lists) (ok : (start three lent).answer ≡ done) → table_after three (starting lent ok mixed) ≡ table_of_row2
  -- with every row built no query whose arguments pass their checks gets 11, whatever colour it asks for
  pub every_row_built : (k : ℕ) → k < three.n → rows_built (StartOf three) every_row k ≡ true
  pub never_missing : (lent : Lists) (ok : (start three lent).answer ≡ done) (q : Query) → argument_number three q ≡ 0
      → (step three (table_after three (starting lent ok every_row)) (Ask q)).answer ≡ refusal 11 → ⊥
  -- a list of calls may be made in batches: a run of two lists is the run of the first, and then that of the second on the lists that it left
  pub run_append : (r : Record) (t : Lists) (xs ys : List Call)
      → let first = run r t xs in
      let rest = run r first.lists ys in
      run r t (xs ++ ys) ≡ record { answers = first.answers ++ rest.answers; lists = rest.lists }
