-- The nodes are values of binary32, whatever the growth and the decay: each is a literal or the result of an operation that rounds to binary32, and beyond the end of a list a read gives a NaN. Assumes nothing.
use mathlib.Core.Path.{◌≡◌, refl}
use mathlib.Core.Bool.{Bool, true, false}
use Prim.Native.Nat.{ℕ, zero, suc, ◌≤◌}
use native.Mathlib.Omega.{arith}
use borrow.Author.Tests.{ltb-true, ltb-false}
use lib.Dec.{T, ltb}
use lib.ListN.{length, get_or, get_or-eq_default}
use lib.Ieee.{Float, nan, binary32, fits}
use lib.Ieee.Bits.{of_bits-fits}
use lib.Ieee.Fits.{mul-fits, div-fits}
use Rattle.elementary.specs.Lists.{list_of}
use Rattle.elementary.proofs.Filled.{length_list_of, get_or_list_of}
use Rattle.interpolation.specs.Laws.{Holds}
use Rattle.starting_nodes.specs.Nodes.{radius_sample, rho_sample}

list_holds : (n : ℕ) (f : ℕ → Float) → ((k : ℕ) → T (fits binary32 (f k))) → Holds (list_of n f)
unfolding fits
list_holds n f h k = go (ltb k n) refl
  where
    go : (b : Bool) → ltb k n ≡ b → T (fits binary32 (get_or (list_of n f) k nan))
    go true e = rw (get_or_list_of n f nan k (ltb-true k n e)) (h k)
    go false e =
        let over : length (list_of n f) ≤ k = omega (arith, length_list_of n f, ltb-false k n e) in
        rw (get_or-eq_default (list_of n f) nan over) tt

pub radii_hold : (growth : Float) (m : ℕ) → Holds (list_of m (radius_sample growth))
unfolding radius_sample
radii_hold growth m = list_holds m (radius_sample growth) each
  where
    each : (j : ℕ) → T (fits binary32 (radius_sample growth j))
    each zero = of_bits-fits binary32 _
    each (suc zero) = of_bits-fits binary32 _
    each (suc (suc j)) = mul-fits binary32 _ _

pub albedos_hold : (decay : Float) (n : ℕ) → Holds (list_of n (rho_sample decay n))
unfolding rho_sample
albedos_hold decay n = list_holds n (rho_sample decay n) (λ i. div-fits binary32 _ _)
