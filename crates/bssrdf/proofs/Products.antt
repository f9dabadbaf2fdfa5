-- A product of two finite numbers one of which is a zero, of either sign, is a zero: its exact value is 0, and rounding keeps it. So where a product is not zero, neither factor is (`factors_nonzero`).
-- The Rust's `sr` skips a place where the product of its two weights is zero: so the albedo weight of each place that it reads is not zero, and the place's row is a needed one. Assumes nothing.
use mathlib.Core.Path.{◌≡◌, refl, sym, ap, ◌∙◌}
use mathlib.Core.Bool.{Bool, true, false, false≢true, true≢false}
use mathlib.Core.Logic.{◌⊎◌, inl, inr}
use Prim.Native.Nat.{ℕ, ◌*◌, ◌<◌}
use native.Mathlib.Nat.{mul-zero, zero-mul, mul-pos}
use native.Mathlib.Omega.{arith}
use borrow.Author.Tests.{eqb-true}
use lib.IntN.{ℤ}
use lib.Ieee.{Float, nan, inf, fin, binary32, up, down, unlike, round, mul, eq, of_bits}
use lib.Ieee.Fits.{up_pos, down_pos}
use lib.Ieee.Scale.{round_same}
use Rattle.elementary.specs.Notation.{◌⊗◌, lit}
use Rattle.elementary.proofs.Monotone.{no_factor}
use Rattle.interpolation.specs.Nodes.{finite}
use Rattle.interpolation.proofs.Finite.{and_left}

-- an exact 0 is rounded to a zero
rounded_zero : (s : Bool) (d : ℕ) → 0 < d → eq (round binary32 s 0 d) (lit 0) ≡ true
unfolding round eq of_bits
rounded_zero s d h = ap (λ (x : Float). eq x (lit 0)) (round_same binary32 s 0 d 0 1 h (omega arith) (omega arith)) ∙ at s
  where
    at : (s : Bool) → eq (round binary32 s 0 1) (lit 0) ≡ true
    at true = refl
    at false = refl

-- a finite zero has the significand 0
significand : (s : Bool) (m : ℕ) (e : ℤ) → eq (fin s m e) (lit 0) ≡ true → m ≡ 0
unfolding eq of_bits
significand s m e h =
    let q = eqb-true (m * up e * 1) (0 * 1 * down e) (and_left _ _ h) in
    no_factor m (up e) (up_pos e) (omega (arith, q, zero-mul (down e)))

pub zero_product : (p q : Float) → finite p ≡ true → finite q ≡ true → (eq p (lit 0) ≡ true) ⊎ (eq q (lit 0) ≡ true) → eq (p ⊗ q) (lit 0) ≡ true
unfolding mul finite
zero_product nan q f g h = absurd (false≢true f)
zero_product (inf s) q f g h = absurd (false≢true f)
zero_product (fin s m e) nan f g h = absurd (false≢true g)
zero_product (fin s m e) (inf t) f g h = absurd (false≢true g)
zero_product (fin s m e) (fin t n d) f g h =
    ap (λ (k : ℕ). eq (round binary32 (unlike s t) k (down e * down d)) (lit 0)) (exact h) ∙ rounded_zero (unlike s t) (down e * down d) (mul-pos (down_pos e) (down_pos d))
  where
    exact : (eq (fin s m e) (lit 0) ≡ true) ⊎ (eq (fin t n d) (lit 0) ≡ true) → m * up e * (n * up d) ≡ 0
    exact (inl z) = rw (significand s m e z, zero-mul, zero-mul)
    exact (inr z) = rw (significand t n d z, zero-mul, mul-zero)

pub factors_nonzero : (p q : Float) → finite p ≡ true → finite q ≡ true → eq (p ⊗ q) (lit 0) ≡ false → (eq p (lit 0) ≡ false) × (eq q (lit 0) ≡ false)
factors_nonzero p q f g h = (one (eq p (lit 0)) (λ z. zero_product p q f g (inl z)), one (eq q (lit 0)) (λ z. zero_product p q f g (inr z)))
  where
    one : (b : Bool) → (b ≡ true → eq (p ⊗ q) (lit 0) ≡ true) → b ≡ false
    one true k = absurd (true≢false (sym (k refl) ∙ h))
    one false k = refl

pub ruleset nonzero = (factors_nonzero)
