-- Lists that a function of the index gives, below n: each element is the function's value, and a list that is made of such a list, or of two, element by element is such a list again. So the steps of a formula, each taken for all indices before the next, are the formula at each index. Assumes nothing.
use Rattle.std.proofs.Common.{◌≡◌, ℕ, ◌<◌, List, map, length, get_or, ap, ◌∙◌, ap₂}
use lib.Ieee.{Float, nan}
use Rattle.elementary.specs.Lists.{list_of}
use Rattle.elementary.proofs.Filled.{length_list_of, get_or_list_of, list_of_same}
use Rattle.elementary.proofs.Mapped.{map_listed}

pub get_or_listed : (n : ℕ) (f : ℕ → Float) (xs : List Float) → xs ≡ list_of n f → (k : ℕ) → k < n → get_or xs k nan ≡ f k
get_or_listed n f xs e k h = ap (λ (ys : List Float). get_or ys k nan) e ∙ get_or_list_of n f nan k h

pub length_listed : (n : ℕ) (f : ℕ → Float) (xs : List Float) → xs ≡ list_of n f → length xs ≡ n
length_listed n f xs e = ap length e ∙ length_list_of n f

-- a list that is made of such a list, element by element
pub mapped_listed : (g : Float → Float) (n : ℕ) (f : ℕ → Float) (old xs : List Float) → old ≡ list_of n f → xs ≡ map g old → xs ≡ list_of n (λ k. g (f k))
mapped_listed g n f old xs e m = m ∙ map_listed g (λ k. g (f k)) old n (length_listed n f old e) (λ k h. ap g (get_or_listed n f old e k h))

-- and one that is made of two
pub paired_listed : (h : Float → Float → Float) (n : ℕ) (f g : ℕ → Float) (xs ys : List Float) → xs ≡ list_of n f → ys ≡ list_of n g
    → list_of n (λ k. h (get_or xs k nan) (get_or ys k nan)) ≡ list_of n (λ k. h (f k) (g k))
paired_listed h n f g xs ys d e = list_of_same n _ _ (λ k l. ap₂ h (get_or_listed n f xs d k l) (get_or_listed n g ys e k l))
