-- A list of calls made in parts: a run of two lists is the run of the first, and then that of the second on the lists that it left (by induction over the first). So the loop of `make`, which makes one call more each turn, has made the run of the first j calls after j turns.
use mathlib.Core.Path.{◌≡◌, refl, sym, ap, ap₂, ◌∙◌}
use mathlib.Core.Bool.{Bool, true, false}
use mathlib.Core.List.{List, [], ◌∷◌, ◌++◌, map, map-append}
use Prim.Native.Nat.{ℕ, ◌+◌, ◌≤◌, ◌<◌, min}
use native.Mathlib.Numerals.{add-one}
use native.Mathlib.Omega.{arith}
use borrow.Author.Tests.{ltb-true, ltb-false}
use lib.Dec.{ltb}
use lib.ListN.{length, get_or, set, take}
use lib.Seq.{take_all, take-suc, take-suc-set}
use Rattle.std.specs.Prelude.{Result}
use Rattle.answers.specs.Answer.{Answer}
use Rattle.answers.specs.declared.refusal.Refusal.{Refusal}
use Rattle.table.specs.Parameters.{Lists, Effect, effect}
use Rattle.table.specs.declared.parameters.Record.{Record}
use Rattle.workstations.specs.Calls.{Call, step, Run, run, call_of, told}
use Rattle.workstations.specs.declared.calls.Call.{Call as DeclaredCall}
use Rattle.workstations.specs.declared.calls.Reply.{Reply}

pub run_append : (r : Record) (t : Lists) (xs ys : List Call)
    → run r t (xs ++ ys) ≡ record { answers = (run r t xs).answers ++ (run r (run r t xs).lists ys).answers; lists = (run r (run r t xs).lists ys).lists }
unfolding run
run_append r t [] ys = refl
run_append r t (c ∷ xs) ys = ap (λ (x : Run). record { answers = (step r t c).answer ∷ x.answers; lists = x.lists }) (run_append r (step r t c).lists xs ys)

-- one call more
run_snoc : (r : Record) (t : Lists) (cs : List Call) (c : Call)
    → let e = step r (run r t cs).lists c in run r t (cs ++ (c ∷ [])) ≡ record { answers = (run r t cs).answers ++ (e.answer ∷ []); lists = e.lists }
unfolding run
run_snoc r t cs c = run_append r t cs (c ∷ [])

-- what the loop has done after j calls of cs, from the lists t: the answers ys so far, and the lists t'
pub record Made (r : Record) (t : Lists) (cs : List DeclaredCall) (ys : List (Result Reply Refusal)) (t' : Lists) (j : ℕ) : Type 0 where
  pub answers : map told (take j ys) ≡ (run r t (map call_of (take j cs))).answers
  pub lists : t' ≡ (run r t (map call_of (take j cs))).lists

pub made_none : {r : Record} {t : Lists} {cs : List DeclaredCall} {ys : List (Result Reply Refusal)} → Made r t cs ys t 0
unfolding run
made_none = record { answers = refl; lists = refl }

pub made_more : {r now : Record} {t t' t'' : Lists} {cs : List DeclaredCall} {ys : List (Result Reply Refusal)} {j : ℕ} (d : DeclaredCall) (a : Result Reply Refusal) → Made r t cs ys t' j
    → j < length cs → j < length ys → now ≡ r → effect (told a) t'' ≡ step now t' (call_of (get_or cs j d)) → Made r t cs (set ys j a) t'' (j + 1)
made_more {r} {t = t} {t'' = t''} {cs} {ys} {j} d a so lc ly same e =
    let front = map call_of (take j cs) in
    let next = call_of (get_or cs j d) in
    let made : effect (told a) t'' ≡ step r (run r t front).lists next = e ∙ ap₂ (λ (x : Record) (y : Lists). step x y next) same so.lists in
    let longer = ap (run r t) (ap (map call_of) (take-suc cs j d lc) ∙ map-append call_of (take j cs) (get_or cs j d ∷ [])) ∙ run_snoc r t front next in
    rw add-one (record {
      answers =
          ap (map told) (take-suc-set ys j a ly) ∙ map-append told (take j ys) (a ∷ [])
          ∙ ap₂ (λ (l : List Answer) (x : Effect). l ++ (x.answer ∷ [])) so.answers made ∙ sym (ap (λ (x : Run). x.answers) longer);
      lists = ap (λ (x : Effect). x.lists) made ∙ sym (ap (λ (x : Run). x.lists) longer);
    })

-- the first n of l elements are the first min n l
take_min : {A : Type 0} (n l : ℕ) (xs : List A) → length xs ≡ l → take (min n l) xs ≡ take n xs
take_min {A} n l xs e = go (ltb n l) refl
  where
    go : (b : Bool) → ltb n l ≡ b → take (min n l) xs ≡ take n xs
    go true t = let k : min n l ≡ n = omega (arith, ltb-true n l t) in ap (λ (j : ℕ). take j xs) k
    go false t = let k : l ≤ n = ltb-false n l t in take_all (min n l) xs (omega arith) ∙ sym (take_all n xs (omega arith))

pub made_first : {r : Record} {t t' : Lists} {cs : List DeclaredCall} {ys : List (Result Reply Refusal)} (n l : ℕ) → Made r t cs ys t' (min n l) → length cs ≡ l → length ys ≡ l → Made r t cs ys t' n
made_first {cs = cs} {ys} n l so ec ey = record { answers = rw (← take_min n l cs ec, ← take_min n l ys ey) so.answers; lists = rw (← take_min n l cs ec) so.lists }
