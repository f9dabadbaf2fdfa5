-- The steps of a formula, each taken for all samples before the next: a step after a step is one step, an element of a step's list is the step at that sample, and a list that a function of the index gives is a step. Assumes nothing.
use mathlib.Core.Path.{◌≡◌, ◌∙◌, ap, sym, refl}
use mathlib.Core.List.{List, map}
use Prim.Native.Nat.{ℕ, ◌<◌}
use lib.ListN.{length, get_or}
use lib.Ieee.{Float, nan}
use Rattle.std.proofs.lemmas.Simd.{map-map}
use Rattle.elementary.specs.Lists.{list_of}
use Rattle.elementary.proofs.Mapped.{get_or_map, map_listed}

pub step_after : (f g : Float → Float) (old : List Float) {xs ys : List Float} → xs ≡ map f old → ys ≡ map g xs → ys ≡ map (λ x. g (f x)) old
step_after f g old e d = d ∙ ap (map g) e ∙ map-map g f old

pub step_at : (f : Float → Float) (old : List Float) {xs : List Float} → xs ≡ map f old → (k : ℕ) → k < length old → get_or xs k nan ≡ f (get_or old k nan)
step_at f old e k h = ap (λ ys. get_or ys k nan) e ∙ get_or_map f old k h

pub step_listed : (f : Float → Float) (xs : List Float) (n : ℕ) → length xs ≡ n → list_of n (λ k. f (get_or xs k nan)) ≡ map f xs
step_listed f xs n e = sym (map_listed f (λ k. f (get_or xs k nan)) xs n e (λ k h. refl))
