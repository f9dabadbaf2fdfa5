-- What a call of the facade returns, and what it leaves in its output lists (specification, section 14.2), by the answer (`answers`) of the call that it makes.
use Rattle.std.specs.Prelude.{◌≡◌, Bool, true, false, List, [], ◌∷◌, ◌++◌, map, ℕ, ℤ, pos, length, drop}
use Rattle.answers.specs.Answer.{Answer, refusal, value, answered, written}
use Rattle.answers.specs.Checks.{first_of}

-- the number returned: that of a refusal, or 0, and 0 for a value alone
abbrev pub Tells : ℕ → Answer → Type 0
Tells y a = answered y (value a.floats a.wholes) ≡ a

-- an output list after the call: the values from its front on, and the rest as it was; all as it was where the call is refused
abbrev pub over : {A : Type 0} → List A → List A → List A
over new old = new ++ drop (length new) old

abbrev pub output : {A : Type 0} → ℕ → List A → List A → List A
output y new old = written y (over new old) old

-- whole numbers that are not signed, as those of an answer are given
abbrev pub wholes : List ℕ → List ℤ
wholes xs = map pos xs

-- an output list of another length than its value's is refused as a list's length is, with 5, once the checks before 5 have passed
unfoldable pub fitted : Bool → ℕ → Answer → Answer
fitted true before a = a
fitted false before a = refusal (first_of (before ∷ 5 ∷ []))
