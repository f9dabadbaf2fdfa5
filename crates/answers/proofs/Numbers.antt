-- Whether a call was refused, by the number alone: a value has the number 0, and a refusal a number above 0. An answer of which that is true is `Numbered`. Values are, and refusals by a number above 0; and where what a call answers after its checks is, so is what it answers. Assumes nothing.
use mathlib.Core.Path.{◌≡◌, refl}
use mathlib.Core.Bool.{true, false}
use mathlib.Core.List.{List}
use Prim.Native.Nat.{ℕ, zero, suc, ◌≤◌, ◌<◌}
use native.Mathlib.Nat.{le_refl}
use native.Mathlib.Omega.{arith}
use lib.IntN.{ℤ}
use lib.Ieee.{Float}
use Rattle.answers.specs.Answer.{Answer, refusal, value, answered}

-- the number tells whether the answer is a value or a refusal
pub record Numbered (a : Answer) : Type 0 where
  pub value_by_0 : a.number ≡ 0 → a.refused ≡ false
  pub refused_above_0 : 0 < a.number → a.refused ≡ true

pub value_numbered : (floats : List Float) (wholes : List ℤ) → Numbered (value floats wholes)
value_numbered floats wholes = record { value_by_0 = λ e. refl; refused_above_0 = λ h. absurd (omega arith) }

pub refusal_numbered : (k : ℕ) → 0 < k → Numbered (refusal k)
refusal_numbered k h = record { value_by_0 = λ e. absurd (omega arith); refused_above_0 = λ l. refl }

pub answered_numbered : (k : ℕ) (a : Answer) → Numbered a → Numbered (answered k a)
unfolding answered
answered_numbered zero a n = n
answered_numbered (suc k) a n = refusal_numbered (suc k) (omega arith)

-- what is answered with the number 0 was refused by no check
pub passed_by_number : (k : ℕ) (a : Answer) → (answered k a).number ≡ 0 → k ≤ 0
unfolding answered
passed_by_number zero a h = le_refl 0
passed_by_number (suc k) a h = absurd (omega arith)
