-- What the `Result` of checks and calls says, by the number of its refusal, which is never 0: checks made one after the other with `?` give the number of the first that refuses, as `first_of` has it; and a call answers its refusal where its checks refuse, and its value where they pass. Assumes nothing.
use mathlib.Core.Path.{◌≡◌, sym, ◌∙◌, ap}
use mathlib.Core.List.{List, [], ◌∷◌}
use Prim.Native.Nat.{ℕ, ◌<◌}
use native.Mathlib.Omega.{arith}
use Rattle.answers.specs.Checks.{first_of}
use Rattle.answers.specs.Answer.{Answer, refusal, answered, written}
use Rattle.answers.specs.Refusal.{number}
use Rattle.answers.proofs.Refusals.{first_here, first_next, first_last, refuses, keeps, answers, writes}
use Rattle.answers.specs.declared.refusal.Refusal.{Refusal}
use Rattle.answers.specs.declared.refusal.Refusal.TheVariants.{Rows, Radii, PhaseAsymmetry, RefractiveIndex, Length, Nodes, RowNumber, Coefficients, Argument, Allowance, RowMissing, NotANumber, Exhausted}

pub number_above_0 : (e : Refusal) → 0 < number e
unfolding number
number_above_0 Rows = omega arith
number_above_0 Radii = omega arith
number_above_0 PhaseAsymmetry = omega arith
number_above_0 RefractiveIndex = omega arith
number_above_0 Length = omega arith
number_above_0 Nodes = omega arith
number_above_0 RowNumber = omega arith
number_above_0 Coefficients = omega arith
number_above_0 Argument = omega arith
number_above_0 Allowance = omega arith
number_above_0 RowMissing = omega arith
number_above_0 NotANumber = omega arith
number_above_0 Exhausted = omega arith

-- ---- one check after the other

-- this one refuses
pub first_refuses : (e : Refusal) (k : ℕ) (ks : List ℕ) → number e ≡ k → number e ≡ first_of (k ∷ ks)
first_refuses e k ks h = h ∙ sym (first_here k ks (let p = number_above_0 e in omega arith))

-- this one passes, and the others decide
pub first_passes : (k n : ℕ) (ks : List ℕ) → 0 ≡ k → n ≡ first_of ks → n ≡ first_of (k ∷ ks)
first_passes k n ks h r = r ∙ sym (first_next k ks (omega arith))

-- the last one decides
pub first_decides : (k n : ℕ) → n ≡ k → n ≡ first_of (k ∷ [])
first_decides k n h = h ∙ sym (first_last k)

-- ---- a call

-- its checks refuse
pub refusal_told : (e : Refusal) (k : ℕ) (a : Answer) → number e ≡ k → refusal (number e) ≡ answered k a
refusal_told e k a h = ap refusal h ∙ sym (refuses k a (let p = number_above_0 e in omega arith))

-- its checks pass
pub value_told : (b : Answer) (k : ℕ) (a : Answer) → 0 ≡ k → b ≡ a → b ≡ answered k a
value_told b k a h r = r ∙ sym (answers k a (omega arith))

-- and so with a list that it writes
pub list_kept : {A : Type 0} (e : Refusal) (k : ℕ) (new old : A) → number e ≡ k → old ≡ written k new old
list_kept e k new old h = sym (keeps k new old (let p = number_above_0 e in omega arith))

pub list_written : {A : Type 0} (k : ℕ) (new old : A) (xs : A) → 0 ≡ k → xs ≡ new → xs ≡ written k new old
list_written k new old xs h r = r ∙ sym (writes k new old (omega arith))

-- ---- what the functions of the code name

-- checks made with `?`
pub ruleset checking = (first_refuses, first_passes, first_decides)

-- an offered call: its answer and its lists by the number of its checks
pub ruleset calling = (refusal_told, value_told, list_kept, list_written)
