-- Two lanes of a vector at once: a step on both is the step on each. Assumes nothing.
use mathlib.Core.Path.{◌≡◌, refl, ap}
use mathlib.Core.List.{List, [], ◌∷◌, map}
use Prim.Native.Nat.{ℕ, zero, suc, ◌-◌, ◌<◌, ◌≤◌}
use native.Mathlib.Omega.{arith}
use lib.ListN.{length}
use lib.Lanes.{zip2}
use lib.Ieee.{Float, of_int, of_bits}
use Rattle.elementary.specs.Notation.{◌⊞◌, ◌⊠◌, ◌⧄◌, lit64, one64, whole64}
use Rattle.elementary.specs.Exponential.{terms, squared}

-- a term more, of a and of b
pub two_terms : (k : Float) (y p : List Float) → length y ≡ 2
    → zip2 (λ x y. x ⊞ y) (one64 ∷ one64 ∷ []) (zip2 (λ x y. x ⊠ y) (zip2 (λ x y. x ⧄ y) y (k ∷ k ∷ [])) p) ≡ zip2 (λ y p. one64 ⊞ y ⧄ k ⊠ p) y p
two_terms k [] p e = refl
two_terms k (a ∷ []) [] e = refl
two_terms k (a ∷ []) (x ∷ p) e = refl
two_terms k (a ∷ b ∷ []) [] e = refl
two_terms k (a ∷ b ∷ []) (x ∷ []) e = refl
two_terms k (a ∷ b ∷ []) (x ∷ z ∷ p) e = refl
two_terms k (a ∷ b ∷ c ∷ y) p e = absurd (omega arith)

-- a squaring more
pub squares_pair : (i : ℕ) (p : List Float) → 0 < i → length p ≡ 2 → map (squared (i - 1)) (zip2 (λ x y. x ⊠ y) p p) ≡ map (squared i) p
unfolding squared
squares_pair zero p h e = absurd (omega arith)
squares_pair (suc i) [] h e = absurd (omega arith)
squares_pair (suc i) (x ∷ []) h e = absurd (omega arith)
squares_pair (suc i) (x ∷ y ∷ []) h e = let same : suc i - 1 ≡ i = omega arith in rw same refl
squares_pair (suc i) (x ∷ y ∷ z ∷ p) h e = absurd (omega arith)

-- with no squaring left
pub squared_none : (i : ℕ) (p : List Float) → i ≤ 0 → map (squared i) p ≡ p
unfolding squared
squared_none (suc i) p z = absurd (omega arith)
squared_none zero [] z = refl
squared_none zero (x ∷ p) z = ap (λ q. x ∷ q) (squared_none zero p z)

pub ruleset squares = (squares_pair, squared_none)

-- ---- the series, term by term

abbrev with_term : Float → Float → Float → Float
with_term y k p = one64 ⊞ y ⧄ k ⊠ p

-- the literals of the code
wholes : (lit64 0x3ff0_0000_0000_0000 ≡ whole64 1)
    × (lit64 0x4000_0000_0000_0000 ≡ whole64 2)
    × (lit64 0x4008_0000_0000_0000 ≡ whole64 3)
    × (lit64 0x4010_0000_0000_0000 ≡ whole64 4)
    × (lit64 0x4014_0000_0000_0000 ≡ whole64 5)
    × (lit64 0x4018_0000_0000_0000 ≡ whole64 6)
    × (lit64 0x401c_0000_0000_0000 ≡ whole64 7)
    × (lit64 0x4020_0000_0000_0000 ≡ whole64 8)
    × (lit64 0x4022_0000_0000_0000 ≡ whole64 9)
    × (lit64 0x4024_0000_0000_0000 ≡ whole64 10)
unfolding of_int of_bits
wholes = (refl, refl, refl, refl, refl, refl, refl, refl, refl, refl)

pub terms_written : (y : Float) → with_term y (lit64 0x3ff0_0000_0000_0000) (with_term y (lit64 0x4000_0000_0000_0000) (with_term y (lit64 0x4008_0000_0000_0000) (with_term y (lit64 0x4010_0000_0000_0000) (with_term y (lit64 0x4014_0000_0000_0000) (with_term y (lit64 0x4018_0000_0000_0000) (with_term y (lit64 0x401c_0000_0000_0000) (with_term y (lit64 0x4020_0000_0000_0000) (with_term y (lit64 0x4022_0000_0000_0000) (with_term y (lit64 0x4024_0000_0000_0000) one64))))))))) ≡ terms 10 y one64
unfolding terms
terms_written y = rw (wholes.0, wholes.1, wholes.2, wholes.3, wholes.4, wholes.5, wholes.6, wholes.7, wholes.8, wholes.9) refl
