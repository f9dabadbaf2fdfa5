-- What the code's answers stand for: a `Refusal` by its number, the row of the table of refusals (specification, section 4.2), and the `Result` of checks or of a call.
use Rattle.std.specs.Prelude.{ℕ, Result, Ok, Err}
use Rattle.answers.specs.Answer.{Answer, refusal}
use Rattle.answers.specs.declared.refusal.Refusal.{Refusal}
use Rattle.answers.specs.declared.refusal.Refusal.TheVariants.{Rows, Radii, PhaseAsymmetry, RefractiveIndex, Length, Nodes, RowNumber, Coefficients, Argument, Allowance, RowMissing, NotANumber, Exhausted}

unfoldable pub number : Refusal → ℕ
number Rows = 1
number Radii = 2
number PhaseAsymmetry = 3
number RefractiveIndex = 4
number Length = 5
number Nodes = 6
number RowNumber = 7
number Coefficients = 8
number Argument = 9
number Allowance = 10
number RowMissing = 11
number NotANumber = 12
number Exhausted = 13

-- checks: the number of the refusal, or 0
unfoldable pub number_of : {A : Type 0} → Result A Refusal → ℕ
number_of (Ok x) = 0
number_of (Err e) = number e

-- a call: what its value says, or the refusal by its number
unfoldable pub told : {A : Type 0} → (A → Answer) → Result A Refusal → Answer
told value_of (Ok x) = value_of x
told value_of (Err e) = refusal (number e)
