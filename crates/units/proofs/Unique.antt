-- Two finite binary32 values with the same units are the same, zeros apart: the sign says which of plus and minus is the size, and values of the same sign and size are equal.
-- So a value of no units is +0 or -0 (`zero_of`), and a quotient of equal values, being 1 before rounding, is 1 (`quotient_one`). Assumes nothing.
use mathlib.Core.Path.{◌≡◌, refl, sym, ap, ◌∙◌, subst}
use mathlib.Core.Bool.{Bool, true, false}
use mathlib.Core.Logic.{◌⊎◌, inl, inr}
use Prim.Native.Nat.{ℕ, ◌+◌, ◌*◌, ◌^◌, ◌<◌}
use native.Mathlib.Nat.{zero-mul, mul-one, mul_comm}
use native.Mathlib.Omega.{arith}
use lib.Arith.{le-zero}
use lib.Dec.{T}
use lib.Pow.{pow_pos}
use lib.IntN.{ℤ, pos}
use lib.Ieee.{Float, nan, inf, fin, binary32, fits, of_bits}
use lib.Ieee.Bits.{of_bits-fits}
use lib.Ieee.Exact.{HasValue}
use lib.Ieee.Fits.{div-fits}
use Rattle.elementary.specs.Notation.{lit, ◌⊘◌}
use Rattle.elementary.specs.Units.{mag}
use Rattle.elementary.proofs.Values.{unique}
use Rattle.elementary.proofs.Magnitude.{mag_exact}
use Rattle.units.specs.Units.{Number, one, plus, minus}
use Rattle.units.proofs.Near.{near, near_same, near_zero}
use Rattle.units.proofs.Rounded.{cap, cap_pos, Value, value, div_rounded}
use Rattle.units.proofs.Held.{one_pos, near_held, held_one}
use Rattle.units.proofs.Bounds.{In}
use Rattle.units.proofs.Literals.{value_in, zero_in, one_in, one_value}

-- of the same sign and size
same_size : (s : Bool) (m n : ℕ) (e d : ℤ) → T (fits binary32 (fin s m e)) → T (fits binary32 (fin s n d)) → mag (fin s m e) ≡ mag (fin s n d) → fin s m e ≡ fin s n d
same_size s m n e d u v h =
    unique binary32 (fin s m e) (fin s n d) s (mag (fin s n d)) u v (subst (λ (k : ℕ). HasValue (fin s m e) s k (2 ^ 149)) h (mag_exact s m e u)) (mag_exact s n d v)

pub same_units : (x y : Float) → Number x → Number y → plus x ≡ plus y → minus x ≡ minus y → 0 < plus y + minus y → x ≡ y
unfolding plus minus
same_units nan y X Y p n z = absurd X.is_finite
same_units (inf s) y X Y p n z = absurd X.is_finite
same_units (fin s m e) nan X Y p n z = absurd Y.is_finite
same_units (fin s m e) (inf t) X Y p n z = absurd Y.is_finite
same_units (fin true m e) (fin true k d) X Y p n z = same_size true m k e d X.holds Y.holds n
same_units (fin true m e) (fin false k d) X Y p n z = absurd (omega arith)
same_units (fin false m e) (fin true k d) X Y p n z = absurd (omega arith)
same_units (fin false m e) (fin false k d) X Y p n z = same_size false m k e d X.holds Y.holds p

-- +0 or -0, by their bit patterns
abbrev pub Zero : Float → Type 0
Zero x = (x ≡ lit 0) ⊎ (x ≡ lit 0x80000000)

pub no_units : (x : Float) → Number x → plus x ≡ 0 → minus x ≡ 0 → Zero x
unfolding plus minus of_bits mag
no_units nan X p n = absurd X.is_finite
no_units (inf s) X p n = absurd X.is_finite
no_units (fin true m e) X p n = inr (same_size true m 0 e (pos 0) X.holds (of_bits-fits binary32 0x80000000) n)
no_units (fin false m e) X p n = inl (same_size false m 0 e (pos 0) X.holds (of_bits-fits binary32 0) p)

pub zero_of : {x : Float} → In x 0 0 → Zero x
zero_of {x} X = no_units x X.number (le-zero X.high) (le-zero X.low)

minus_zero_value : Value (lit 0x80000000) 0 0
unfolding of_bits plus minus mag
minus_zero_value = record { is_finite = tt; is_plus = refl; is_minus = refl }

pub in_zero : {x : Float} → Zero x → In x 0 0
in_zero (inl e) = subst (λ (z : Float). In z 0 0) (sym e) zero_in
in_zero (inr e) = subst (λ (z : Float). In z 0 0) (sym e) (value_in 0x80000000 0 0 minus_zero_value)

-- a over b, which have the same units, is 1
pub quotient_one : {a b : Float} → In a 0 (plus a) → Number b → 0 < plus b → plus a ≡ plus b → a ⊘ b ≡ lit 0x3f800000
quotient_one {a} {b} A B P e =
    let p : near (plus a * one) (plus b) ≡ one = near_same (plus a * one) (plus b) one 1 P (pow_pos 0) (mul-one (plus a * one) ∙ ap (λ (k : ℕ). k * one) e ∙ mul_comm (plus b) one) ∙ near_held held_one in
    let m : near (minus a * one) (plus b) ≡ 0 = ap (λ (k : ℕ). near (k * one) (plus b)) (le-zero A.low) ∙ ap (λ (k : ℕ). near k (plus b)) (zero-mul one) ∙ near_zero (plus b) P in
    let v = value (a ⊘ b) (plus a * one) (minus a * one) (plus b) (div_rounded a b A.number B P) P (subst (λ (k : ℕ). k < cap) (sym p) held_one.in_range) (subst (λ (k : ℕ). k < cap) (sym m) cap_pos) in
    same_units (a ⊘ b) (lit 0x3f800000) (record { is_finite = v.is_finite; holds = div-fits binary32 a b }) one_in.number (v.is_plus ∙ p ∙ sym one_value.is_plus)
    (v.is_minus ∙ m ∙ sym one_value.is_minus) (subst (λ (k : ℕ). 0 < k + minus (lit 0x3f800000)) (sym one_value.is_plus) (some one (minus (lit 0x3f800000)) one_pos))
  where
    some : (n k : ℕ) → 0 < n → 0 < n + k
    some n k h = omega arith
