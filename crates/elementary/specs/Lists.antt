-- Sums and lists that a function of the index gives.
use Rattle.std.specs.Prelude.{ℕ, zero, suc, List, [], ◌∷◌, Float}
use Rattle.elementary.specs.Notation.{◌⊕◌, lit}

-- +0, and then f 0, f 1, .. added one by one, n of them
unfoldable pub sum_to : (ℕ → Float) → ℕ → Float
sum_to f zero = lit 0
sum_to f (suc n) = sum_to f n ⊕ f n

-- f s, f (s + 1), .., n of them
unfoldable pub from : {A : Type 0} → ℕ → ℕ → (ℕ → A) → List A
from s zero f = []
from s (suc n) f = f s ∷ from (suc s) n f

-- f 0, f 1, .., f (n - 1)
unfoldable pub list_of : {A : Type 0} → ℕ → (ℕ → A) → List A
list_of n f = from 0 n f
