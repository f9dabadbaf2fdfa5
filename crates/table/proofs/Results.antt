-- A refused start or build, by its refusal: the number alone, and every list as it was. Assumes nothing.
use mathlib.Core.Path.{◌≡◌, ap₂}
use Prim.Native.Nat.{ℕ}
use Rattle.answers.specs.Answer.{Answer, refusal, answered, written}
use Rattle.answers.specs.Refusal.{number}
use Rattle.answers.specs.declared.refusal.Refusal.{Refusal}
use Rattle.answers.proofs.Results.{refusal_told, list_kept}
use Rattle.table.specs.Parameters.{Lists, effect}

pub effect_refused : (e : Refusal) (k : ℕ) (a : Answer) (new old : Lists) → number e ≡ k → effect (refusal (number e)) old ≡ effect (answered k a) (written k new old)
effect_refused e k a new old h = ap₂ effect (refusal_told e k a h) (list_kept e k new old h)
