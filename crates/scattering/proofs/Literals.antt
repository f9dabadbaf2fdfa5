-- Each constant of the definitions has the bits that its decimal literal rounds to, by computation. Assumes nothing.
use mathlib.Core.Path.{◌≡◌, refl}
use mathlib.Core.List.{List, [], ◌∷◌}
use Prim.Native.Nat.{ℕ}
use lib.IntN.{pos}
use lib.Ieee.{Float, binary32, round, of_bits, of_int}
use Rattle.elementary.specs.Notation.{decimal}
use Rattle.scattering.specs.Literals.{quarter, half, one, two, three, hundred, «0·45966», «1·73965», «3·37668», «3·904945», «2·49277», «0·68441», «4·61686», «11·1136», «10·4646», «5·11455», «1·27198», «0·12746», «0·27614», «0·87350», «1·12077», «0·65095», «0·07883», «0·04860», «547·033», «45·3087», «218·725», «458·843», «404·557», «189·519», «54·9327», «9·00603», «0·63942»}
use Rattle.scattering.specs.Samples.{n_samples}

-- digits / 10 ^ places
abbrev dec : ℕ → ℕ → Float
dec digits places = decimal binary32 digits places

pub small_literals : ◌≡◌ {A = List Float} (quarter ∷ half ∷ one ∷ two ∷ three ∷ hundred ∷ []) (dec 25 2 ∷ dec 5 1 ∷ dec 1 0 ∷ dec 2 0 ∷ dec 3 0 ∷ dec 100 0 ∷ [])
unfolding round of_bits
small_literals = refl

-- `n_samples as Float`
pub hundred_is : hundred ≡ of_int binary32 (pos n_samples)
unfolding round of_bits of_int n_samples
hundred_is = refl

-- the coefficients of `fresnel_moment1` below 1, and from 1 on
pub moment1_below : ◌≡◌ {A = List Float}
    («0·45966» ∷ «1·73965» ∷ «3·37668» ∷ «3·904945» ∷ «2·49277» ∷ «0·68441» ∷ [])
    (dec 45966 5 ∷ dec 173965 5 ∷ dec 337668 5 ∷ dec 3904945 6 ∷ dec 249277 5 ∷ dec 68441 5 ∷ [])
unfolding round of_bits
moment1_below = refl

pub moment1_above : ◌≡◌ {A = List Float}
    («4·61686» ∷ «11·1136» ∷ «10·4646» ∷ «5·11455» ∷ «1·27198» ∷ «0·12746» ∷ [])
    (dec 461686 5 ∷ dec 111136 4 ∷ dec 104646 4 ∷ dec 511455 5 ∷ dec 127198 5 ∷ dec 12746 5 ∷ [])
unfolding round of_bits
moment1_above = refl

-- those of `fresnel_moment2`
pub moment2_below : ◌≡◌ {A = List Float}
    («0·27614» ∷ «0·87350» ∷ «1·12077» ∷ «0·65095» ∷ «0·07883» ∷ «0·04860» ∷ [])
    (dec 27614 5 ∷ dec 87350 5 ∷ dec 112077 5 ∷ dec 65095 5 ∷ dec 7883 5 ∷ dec 4860 5 ∷ [])
unfolding round of_bits
moment2_below = refl

pub moment2_above : ◌≡◌ {A = List Float}
    («547·033» ∷ «45·3087» ∷ «218·725» ∷ «458·843» ∷ «404·557» ∷ «189·519» ∷ «54·9327» ∷ «9·00603» ∷ «0·63942» ∷ [])
    (dec 547033 3 ∷ dec 453087 4 ∷ dec 218725 3 ∷ dec 458843 3 ∷ dec 404557 3 ∷ dec 189519 3 ∷ dec 549327 4 ∷ dec 900603 5 ∷ dec 63942 5 ∷ [])
unfolding round of_bits
moment2_above = refl
