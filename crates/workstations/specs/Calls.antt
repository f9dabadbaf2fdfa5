-- What a call does, and what a list of calls does: each is given the start's record, and the six lists as the call before left them (specification, section 12.1).
use Rattle.std.specs.Prelude.{ℕ, List, [], ◌∷◌, Result, Float}
use Rattle.answers.specs.Answer.{Answer, value}
use Rattle.answers.specs.Checks.{first_of}
use Rattle.answers.specs.Refusal.{told as told_by}
use Rattle.answers.specs.declared.refusal.Refusal.{Refusal}
use Rattle.interpolation.specs.Checks.{check9, check10}
use Rattle.scattering.specs.Exitance.{spectrum_value}
use Rattle.scattering.specs.declared.spectrum.RGBEnum.{RGBEnum}
use Rattle.table.specs.Parameters.{Lists, Effect, effect, done}
use Rattle.table.specs.Building.{build}
use Rattle.table.specs.declared.parameters.Record.{Record}
use Rattle.bssrdf.specs.Checks.{check8}
use Rattle.bssrdf.specs.Question.{Question, posed}
use Rattle.bssrdf.specs.Radiance.{sr_question}
use Rattle.bssrdf.specs.Density.{pdf_question}
use Rattle.bssrdf.specs.Drawing.{sample_question, drawn_value}
use Rattle.bssrdf.specs.declared.coefficients.Coefficients.{Coefficients}
use Rattle.bssrdf.specs.declared.coefficients.WorldRadius.{WorldRadius}
use Rattle.workstations.specs.declared.calls.Query.{Query as DeclaredQuery}
use Rattle.workstations.specs.declared.calls.Call.{Call as DeclaredCall}
use Rattle.workstations.specs.declared.calls.Reply.{Reply}

-- a query with its arguments
pub data Query : Type 0 where
  Sr : Coefficients → WorldRadius → Query
  PdfSr : RGBEnum → Coefficients → WorldRadius → Query
  SampleSr : RGBEnum → Coefficients → Float → ℕ → Query

-- a call with its arguments
pub data Call : Type 0 where
  Build : ℕ → Call
  Ask : Query → Call

-- ---- a query, as a question: the rows that it needs, the number of its checks before 11, and its answer, which is that of `sr`, `pdf_sr` or `sample_sr`

unfoldable pub question : Record → Query → Lists → Question
question r (Sr c x) = sr_question r c x
question r (PdfSr ch c x) = pdf_question r ch c x
question r (SampleSr ch c u allowance) = sample_question r ch c u allowance

abbrev pub needed_rows : Record → Lists → Query → List ℕ
needed_rows r t q = (question r q t).rows

abbrev pub order_number : Record → Lists → Query → ℕ
order_number r t q = (question r q t).order

-- the number that the checks of its arguments give, whatever the table: 8, and of a draw 8 to 10
unfoldable pub argument_number : Record → Query → ℕ
argument_number r (Sr c x) = check8 c
argument_number r (PdfSr ch c x) = check8 c
argument_number r (SampleSr ch c u allowance) = first_of (check8 c ∷ check9 u ∷ check10 allowance ∷ [])

unfoldable pub ask : Record → Lists → Query → Answer
ask r t q = posed t.marks (question r q t)

-- ---- one call: its answer, and the lists as it leaves them; a query leaves them as they are

unfoldable pub step : Record → Lists → Call → Effect
step r t (Build i) = build r i t
step r t (Ask q) = effect (ask r t q) t

-- ---- a list of calls, in order: the answers, and the lists at the end

pub record Run : Type 0 where
  pub answers : List Answer
  pub lists : Lists

unfoldable pub run : Record → Lists → List Call → Run
run r t [] = record { answers = []; lists = t }
run r t (c ∷ cs) =
    let first = step r t c in
    let rest = run r first.lists cs in
    record { answers = first.answer ∷ rest.answers; lists = rest.lists }

-- ---- what the code's queries, calls and replies stand for, case by case

unfoldable pub query_of : DeclaredQuery → Query
query_of (DeclaredQuery.Sr c x) = Sr c x
query_of (DeclaredQuery.PdfSr ch c x) = PdfSr ch c x
query_of (DeclaredQuery.SampleSr ch c u allowance) = SampleSr ch c u allowance

unfoldable pub call_of : DeclaredCall → Call
call_of (DeclaredCall.Build i) = Build i
call_of (DeclaredCall.Ask q) = Ask (query_of q)

unfoldable pub reply_value : Reply → Answer
reply_value Reply.Done = done
reply_value (Reply.Radiance s) = spectrum_value s
reply_value (Reply.Density v) = value (v ∷ []) []
reply_value (Reply.Drawn d) = drawn_value d.radius d.rounds

-- what a call answers: its reply, or the refusal
unfoldable pub told : Result Reply Refusal → Answer
told = told_by reply_value
