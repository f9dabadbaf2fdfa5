-- What a number says: the first that is not 0 is the answer of `first_of`, and where that is 0 every check has passed; a refusal is the number alone and keeps the list, and the number 0 lets the answer and the new list through. Assumes nothing.
use mathlib.Core.Path.{◌≡◌, refl}
use mathlib.Core.Bool.{Bool, true, false}
use mathlib.Core.List.{List, [], ◌∷◌}
use Prim.Native.Nat.{ℕ, zero, suc, ◌≤◌, ◌<◌}
use native.Mathlib.Nat.{le_refl}
use native.Mathlib.Omega.{arith}
use Rattle.answers.specs.Checks.{unless_passed, first_of}
use Rattle.answers.specs.Answer.{Answer, refusal, answered, written}

-- ---- the first that refuses

pub first_here : (k : ℕ) (ks : List ℕ) → 0 < k → first_of (k ∷ ks) ≡ k
unfolding first_of
first_here zero ks h = absurd (omega arith)
first_here (suc k) ks h = refl

pub first_next : (k : ℕ) (ks : List ℕ) → k ≤ 0 → first_of (k ∷ ks) ≡ first_of ks
unfolding first_of
first_next zero ks h = refl
first_next (suc k) ks h = absurd (omega arith)

pub first_last : (k : ℕ) → first_of (k ∷ []) ≡ k
unfolding first_of
first_last zero = refl
first_last (suc k) = refl

pub first_none : (k : ℕ) (ks : List ℕ) → first_of (k ∷ ks) ≡ 0 → (k ≡ 0) × (first_of ks ≡ 0)
unfolding first_of
first_none zero ks h = (refl, h)
first_none (suc k) ks h = absurd (omega arith)

-- ---- what a passed check says

-- the number m that a call answered as k was not above 0
pub nothing : (k m : ℕ) → k ≡ m → k ≤ 0 → m ≡ 0
nothing k m e l = omega arith

pub passed : (number : ℕ) (b : Bool) → 0 < number → unless_passed number b ≡ 0 → b ≡ true
passed number true p h = refl
passed number false p h = absurd (omega arith)

-- ---- the answer and the list by the number

pub refuses : (k : ℕ) (a : Answer) → 0 < k → answered k a ≡ refusal k
unfolding answered
refuses zero a h = absurd (omega arith)
refuses (suc k) a h = refl

pub not_refused : (k : ℕ) (a : Answer) → (answered k a).refused ≡ false → k ≤ 0
unfolding answered
not_refused zero a h = le_refl 0
not_refused (suc k) a h = cc

pub keeps : {A : Type 0} (k : ℕ) (new old : A) → 0 < k → written k new old ≡ old
unfolding written
keeps zero new old h = absurd (omega arith)
keeps (suc k) new old h = refl

pub answers : (k : ℕ) (a : Answer) → k ≤ 0 → answered k a ≡ a
unfolding answered
answers zero a h = refl
answers (suc k) a h = absurd (omega arith)

pub writes : {A : Type 0} (k : ℕ) (new old : A) → k ≤ 0 → written k new old ≡ new
unfolding written
writes zero new old h = refl
writes (suc k) new old h = absurd (omega arith)

-- ---- sets of these laws; those that functions of the code name are in `Results`

-- a chain of checks: the first number that is not 0 is the answer
pub ruleset chain = (first_here, first_next, first_last)

-- an offered call: its answer and its lists by the number of its checks
pub ruleset refusals = (chain, refuses, keeps, answers, writes)
