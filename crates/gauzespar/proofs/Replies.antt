-- What a number returned says, and what it leaves in an output list. A value is told by 0. A refusal is told by its own number, which is never 0, so that the lists are kept (`Kept`): because the call refuses, because an output list has the wrong length, or because there is no such channel. Assumes nothing.
use mathlib.Core.Path.{◌≡◌, refl, sym, ap, subst, subst⁻¹, ◌∙◌}
use mathlib.Core.Bool.{Bool, true, false, ◌&&◌, false≢true}
use mathlib.Core.List.{List, [], ◌∷◌, ◌++◌, append-nil}
use Prim.Native.Nat.{ℕ, zero, suc, ◌<◌}
use native.Mathlib.Omega.{arith}
use lib.IntN.{ℤ, pos}
use lib.ListN.{length, drop, set, drop_of_length-le}
use lib.Ieee.{Float}
use Rattle.answers.specs.Answer.{Answer, refusal, value, answered, written}
use Rattle.answers.specs.Checks.{first_of}
use Rattle.gauzespar.specs.Outputs.{Tells, over, wholes, fitted}
use Rattle.gauzespar.specs.Calls.{in_channel, no_channel}
use Rattle.scattering.specs.Spectrum.{channel_number}
use Rattle.scattering.specs.declared.spectrum.RGBEnum.{RGBEnum}
use Rattle.scattering.specs.declared.spectrum.RGBEnum.TheVariants.{Red, Green, Blue}

-- ---- a value

pub value_told : {a : Answer} {floats : List Float} {ws : List ℤ} → value floats ws ≡ a → Tells 0 a
unfolding answered
value_told e = rw (← e)

-- in a list that is as long
pub value_list : (old : List Float) {given new after : List Float} → length old ≡ length new → after ≡ new → new ≡ given → after ≡ written 0 (over given old) old
unfolding written
value_list old {given = given} {new = new} l e f =
    let none : drop (length new) old ≡ [] = drop_of_length-le old {i = length new} (omega (arith, l)) in
    let all : over new old ≡ new = ap (λ (rest : List Float). new ++ rest) none ∙ append-nil new in
    e ∙ sym all ∙ ap (λ (xs : List Float). over xs old) f

-- of no element
pub value_none : {A : Type 0} (old : List A) {given : List A} → [] ≡ given → old ≡ written 0 (over given old) old
unfolding written
value_none {A = A} old e = ap (λ (xs : List A). over xs old) e

-- of one element, at the front of a list
pub value_first : {A : Type 0} (old : List A) (x : A) {given : List A} → 0 < length old → x ∷ [] ≡ given → set old 0 x ≡ written 0 (over given old) old
unfolding written
value_first [] x h e = absurd (omega arith)
value_first {A = A} (y ∷ ys) x h e = ap (λ (xs : List A). over xs (y ∷ ys)) e

-- the same of a whole number that is not signed
pub value_whole : (old : List ℕ) (n : ℕ) {given : List ℤ} → 0 < length old → pos n ∷ [] ≡ given → wholes (set old 0 n) ≡ written 0 (over given (wholes old)) (wholes old)
unfolding written
value_whole [] n h e = absurd (omega arith)
value_whole (y ∷ ys) n h e = ap (λ (xs : List ℤ). over xs (wholes (y ∷ ys))) e

-- ---- a refusal

pub record Kept (y : ℕ) (a : Answer) : Type 0 where
  pub told : Tells y a
  pub positive : 0 < y

pub kept_list : {A : Type 0} {y : ℕ} {a : Answer} (new old : A) → Kept y a → old ≡ written y new old
unfolding written
kept_list {y = zero} new old k = absurd (omega (arith, k.positive))
kept_list {y = suc y} new old k = refl

kept : (y : ℕ) → 0 < y → Kept y (refusal y)
unfolding answered
kept zero h = absurd (omega arith)
kept (suc y) h = record { told = refl; positive = h }

-- an answer is numbered if its number tells it: nothing but a value has 0, and a refusal is its number alone
abbrev pub Numbered : Answer → Type 0
Numbered a = Tells a.number a

pub numbered_value : (floats : List Float) (ws : List ℤ) → Numbered (value floats ws)
unfolding answered
numbered_value floats ws = refl

pub numbered : (k : ℕ) (a : Answer) → Numbered a → Numbered (answered k a)
unfolding answered
numbered zero a h = h
numbered (suc k) a h = refl

pub positive : (n : ℕ) (a : Answer) → refusal n ≡ a → Numbered a → 0 < n
unfolding answered
positive zero a e h = absurd (false≢true (ap (λ (b : Answer). b.refused) (rw (← e) at h)))
positive (suc n) a e h = omega arith

-- ---- a list that the call below writes by its own number k

pub value_written : {A : Type 0} {floats : List Float} {ws : List ℤ} (k : ℕ) (a : Answer) (new old : A) → value floats ws ≡ answered k a → written k new old ≡ written 0 new old
unfolding answered
value_written zero a new old e = refl
value_written (suc k) a new old e = absurd (false≢true (ap (λ (b : Answer). b.refused) e))

pub refusal_written : {A : Type 0} {n : ℕ} (k : ℕ) (floats : List Float) (ws : List ℤ) (new old : A) → refusal n ≡ answered k (value floats ws) → written k new old ≡ written n new old
unfolding answered
refusal_written zero floats ws new old e = absurd (false≢true (sym (ap (λ (b : Answer). b.refused) e)))
refusal_written (suc k) floats ws new old e = ap (λ (j : ℕ). written j new old) (sym (ap (λ (b : Answer). b.number) e))

-- ---- output lists

pub fits : {b : Bool} (before : ℕ) (a : Answer) → b ≡ true → fitted b before a ≡ a
unfolding fitted
fits before a e = rw e

-- they fit, and the call refuses
pub kept_refusal : {b : Bool} {n : ℕ} {a : Answer} (before : ℕ) → b ≡ true → refusal n ≡ a → Numbered a → Kept n (fitted b before a)
kept_refusal {n = n} {a = a} before f e h = subst⁻¹ (λ (b : Answer). Kept n b) (fits before a f) (subst (λ (b : Answer). Kept n b) e (kept n (positive n a e h)))

-- one has the wrong length
pub kept_misfit : {b : Bool} {before x y : ℕ} (a : Answer) → b ≡ false → x ≡ before → y ≡ first_of (x ∷ 5 ∷ []) → Kept y (fitted b before a)
unfolding fitted first_of
kept_misfit {x = zero} a e f g = rw (e, ← f, g) (kept 5 (omega arith))
kept_misfit {x = suc x} a e f g = rw (e, ← f, g) (kept (suc x) (omega arith))

-- several lists fit if each does
pub both : {a b : Bool} → a ≡ true → b ≡ true → a && b ≡ true
both e f = rw (e, f)

pub not_first : {a : Bool} (b : Bool) → a ≡ false → a && b ≡ false
not_first b e = rw e

pub not_second : {a b : Bool} → a ≡ true → b ≡ false → a && b ≡ false
not_second e f = rw (e, f)

-- ---- channels

pub kept_channel : {channel : ℕ} (call : RGBEnum → Answer) → 2 < channel → Kept 100 (in_channel channel call)
unfolding in_channel no_channel
kept_channel {channel = zero} call h = absurd (omega arith)
kept_channel {channel = suc zero} call h = absurd (omega arith)
kept_channel {channel = suc (suc zero)} call h = absurd (omega arith)
kept_channel {channel = suc (suc (suc k))} call h = kept 100 (omega arith)

-- the call in the channel that a number has
pub numbered_channel : (n : ℕ) (ch : RGBEnum) (call : RGBEnum → Answer) → channel_number ch ≡ n → in_channel n call ≡ call ch
unfolding in_channel channel_number
numbered_channel n Red call e = rw (← e)
numbered_channel n Green call e = rw (← e)
numbered_channel n Blue call e = rw (← e)

pub kept_same : {y : ℕ} {a b : Answer} → b ≡ a → Kept y a → Kept y b
kept_same {y = y} e k = subst⁻¹ (λ (a : Answer). Kept y a) e k
