-- Check 8 by what the code tests. The sum of two values from 0 on is not below 0, so it is finite where it is below infinity (`sum_below`), and then both are finite (`sum_ends` of interpolation).
-- The tests stand channel by channel in the code and coefficient by coefficient in the definition (`tests_are`). Assumes nothing.
use mathlib.Core.Path.{◌≡◌, refl, ap, ◌∙◌}
use mathlib.Core.Bool.{Bool, true, false, cond, ◌&&◌, false≢true}
use Prim.Native.Nat.{ℕ, zero, suc, ◌+◌, ◌-◌, ◌*◌, ◌^◌, ◌<◌}
use native.Mathlib.Omega.{arith}
use lib.Dec.{T, ltb}
use lib.Pow.{pow_pos}
use lib.Ieee.{Float, nan, inf, fin, binary32, prec, emax, low, fits, lt, le, add, of_bits, round, units, odd}
use lib.Ieee.Fits.{round_is}
use lib.Ieee.Scale as Scale
use Rattle.elementary.specs.Notation.{◌⊕◌, lit}
use Rattle.units.specs.Units.{Number}
use Rattle.units.specs.Units as Units
use Rattle.units.proofs.Near.{near, near_zero}
use Rattle.units.proofs.Rounded.{cap, cap_pos, Rounded, value, add_rounded}
use Rattle.units.proofs.Order.{le_true}
use Rattle.units.proofs.Literals.{zero_value, zero_in}
use Rattle.interpolation.specs.Nodes.{finite}
use Rattle.interpolation.proofs.Finite.{sum_ends}
use Rattle.scattering.specs.Spectrum.{plus}
use Rattle.bssrdf.specs.Coefficients.{sigma_t}
use Rattle.bssrdf.specs.Checks.{each_channel, coefficient_ok}
use Rattle.bssrdf.specs.declared.coefficients.Coefficients.{Coefficients}

-- ---- a sum of two values from 0 on

-- z is below infinity exactly if it is finite: so is every value but minus infinity
abbrev Below : Float → Type 0
Below z = lt z (inf false) ≡ finite z

finite_below : (z : Float) → T (Scale.finite z) → Below z
unfolding finite lt
finite_below nan t = absurd t
finite_below (inf s) t = absurd t
finite_below (fin s m e) t = refl

-- a fraction rounded, with the sign of a value from 0 on
units_below : (q k : ℕ) → Below (units binary32 false q k)
unfolding units odd finite lt
units_below q k = go (ltb (q * 2 ^ k) (2 ^ (low binary32 + suc (emax binary32)))) q
  where
    go : (b : Bool) (q : ℕ) → Below (cond b (odd (suc (prec binary32)) false q k (low binary32)) (inf false))
    go true zero = refl
    go true (suc q) = refl
    go false q = refl

round_below : (num den : ℕ) → Below (round binary32 false num den)
round_below num den = rw (round_is binary32 false num den) (units_below _ _)

-- p units, rounded: with the sign of a value below 0 they can only be none
rounded_below : (z : Float) (p : ℕ) → Rounded z p 0 1 → Below z
rounded_below z p r = go r.sign refl r.other
  where
    none : (k : ℕ) → k ≡ 0 → near k 1 < cap
    none k e = rw (e, near_zero 1 (pow_pos 0)) cap_pos

    go : (s : Bool) → r.sign ≡ s → cond s p 0 ≡ 0 → Below z
    go false e o = rw (r.is, e) (round_below r.num r.den)
    go true e o = finite_below z (value z p 0 1 r (pow_pos 0) (none p o) (none 0 refl)).is_finite

numbers_below : (a b : Float) → Number a → Number b → le (lit 0) a ≡ true → le (lit 0) b ≡ true → Below (a ⊕ b)
numbers_below a b A B h k =
    let l = le_true zero_in.number A h in
    let m = le_true zero_in.number B k in
    let e : Units.minus a + Units.minus b - (Units.plus a + Units.plus b) ≡ 0 = omega (arith, zero_value.is_plus, zero_value.is_minus) in
    rounded_below (a ⊕ b) _ (rw e at (add_rounded a b A B))

sum_below : (a b : Float) → T (fits binary32 a) → T (fits binary32 b) → le (lit 0) a ≡ true → le (lit 0) b ≡ true → Below (a ⊕ b)
unfolding add finite lt le of_bits
sum_below nan b A B h k = refl
sum_below (inf true) b A B h k = absurd (false≢true h)
sum_below (inf false) nan A B h k = refl
sum_below (inf false) (inf true) A B h k = refl
sum_below (inf false) (inf false) A B h k = refl
sum_below (inf false) (fin t n d) A B h k = refl
sum_below (fin s m e) nan A B h k = refl
sum_below (fin s m e) (inf true) A B h k = absurd (false≢true k)
sum_below (fin s m e) (inf false) A B h k = refl
sum_below (fin s m e) (fin t n d) A B h k = numbers_below (fin s m e) (fin t n d) (record { is_finite = tt; holds = A }) (record { is_finite = tt; holds = B }) h k

-- ---- the tests of a channel

abbrev pub channel_ok : Float → Float → Bool
channel_ok a s = coefficient_ok a && coefficient_ok s && finite (a ⊕ s)

pub channel_tests : (a s : Float) → T (fits binary32 a) → T (fits binary32 s) → (le (lit 0) a && le (lit 0) s && lt (a ⊕ s) (inf false)) ≡ channel_ok a s
unfolding coefficient_ok
channel_tests a s A S = go (le (lit 0) a) (le (lit 0) s) (finite a) (finite s) (lt (a ⊕ s) (inf false)) (finite (a ⊕ s)) (sum_below a s A S) (sum_ends a s)
  where
    ends : (x y z : Bool) → (z ≡ true → (x ≡ true) × (y ≡ true)) → z ≡ (x && y && z)
    ends x y true h = let both = h refl in rw (both.0, both.1) refl
    ends true true false h = refl
    ends true false false h = refl
    ends false y false h = refl

    go : (a s x y l z : Bool) → (a ≡ true → s ≡ true → l ≡ z) → (z ≡ true → (x ≡ true) × (y ≡ true)) → (a && s && l) ≡ ((a && x) && (s && y) && z)
    go true true x y l z h k = h refl refl ∙ ends x y z k
    go true false true y l z h k = refl
    go true false false y l z h k = refl
    go false s x y l z h k = refl

-- ---- the order of the tests

both : (a b c d : Bool) → ((a && b) && (c && d)) ≡ ((a && c) && (b && d))
both true true c d = refl
both true false true d = refl
both true false false d = refl
both false b c d = refl

each_both : (a b c d e f : Bool) → ((a && b) && (c && d) && (e && f)) ≡ ((a && c && e) && (b && d && f))
each_both a b c d e f = ap (λ (x : Bool). x && (e && f)) (both a b c d) ∙ both (a && c) (b && d) e f

pub tests_are : (c : Coefficients) → (channel_ok c.sigma_a.r c.sigma_s.r && channel_ok c.sigma_a.g c.sigma_s.g && channel_ok c.sigma_a.b c.sigma_s.b)
    ≡ (each_channel coefficient_ok c.sigma_a && each_channel coefficient_ok c.sigma_s && each_channel finite (sigma_t c))
unfolding sigma_t plus
tests_are c =
    let a = c.sigma_a in
    let s = c.sigma_s in
    let ok : Float → Float → Bool = λ x y. coefficient_ok x && coefficient_ok y in
    each_both (ok a.r s.r) (finite (a.r ⊕ s.r)) (ok a.g s.g) (finite (a.g ⊕ s.g)) (ok a.b s.b) (finite (a.b ⊕ s.b))
    ∙ ap (λ (t : Bool). t && each_channel finite (plus a s)) (each_both (coefficient_ok a.r) (coefficient_ok s.r) (coefficient_ok a.g) (coefficient_ok s.g) (coefficient_ok a.b) (coefficient_ok s.b))

pub ruleset testing = (channel_tests, tests_are)
