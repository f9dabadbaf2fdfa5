-- What a call answers, and what it leaves in a lent list (specification, section 4.1).
use Rattle.std.specs.Prelude.{ℕ, zero, suc, Bool, true, false, List, [], ℤ, Float}

-- An answer: a refusal, with its number alone; or a value, with the number 0, and its floats and whole numbers, in the order in which the specification names them. So no refusal is a value, whatever its number.
pub record Answer : Type 0 where
  pub refused : Bool
  pub number : ℕ
  pub floats : List Float
  pub wholes : List ℤ

abbrev pub refusal : ℕ → Answer
refusal number = record { refused = true; number = number; floats = []; wholes = [] }

abbrev pub value : List Float → List ℤ → Answer
value floats wholes = record { refused = false; number = 0; floats = floats; wholes = wholes }

-- the answer, or what was there before, by the number of the checks: so a refusal gives its number alone, and writes nothing
unfoldable pub answered : ℕ → Answer → Answer
answered zero a = a
answered (suc k) a = refusal (suc k)

unfoldable pub written : {A : Type 0} → ℕ → A → A → A
written zero new old = new
written (suc k) new old = old
