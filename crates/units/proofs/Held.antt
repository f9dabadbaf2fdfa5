-- The numbers of units that binary32 holds: those of 24 binary digits and zeros after them, up to the largest. Rounding leaves them as they are (`near_held`).
-- A value that fits is q * 2 ^ j units with a q of at most 24 digits, so its size is one of them (`plus_held`). Assumes nothing.
use mathlib.Core.Path.{◌≡◌, refl, sym, ap, ◌∙◌, subst}
use mathlib.Core.Bool.{Bool, true, false}
use Prim.Native.Nat.{ℕ, suc, ◌*◌, ◌^◌, ◌<◌}
use native.Mathlib.Nat.{lt_of_lt_of_le, one-mul, pow-succ'}
use native.Mathlib.Omega.{arith}
use lib.Dec.{T, lit<, lit≤}
use lib.Pow.{pow_pos, pow_mono, shl_lt}
use lib.IntN.{ℤ}
use lib.Ieee.{Float, nan, inf, fin, binary32, fits}
use Rattle.elementary.specs.Units.{mag}
use Rattle.elementary.proofs.Values.{finite_units}
use Rattle.elementary.proofs.Magnitude.{mag_at}
use Rattle.units.specs.Units.{Number, one, plus}
use Rattle.units.proofs.Near.{near, near_fixes}
use Rattle.units.proofs.Rounded.{cap, cap_pos}
use Rattle.units.proofs.Sizes.{limit}

pub one_pos : 0 < one
unfolding one
one_pos = pow_pos 149

pub record Held (n : ℕ) : Type 0 where
  pub digits : ℕ
  pub places : ℕ
  pub small : digits < 2 ^ 24
  pub is : n ≡ digits * 2 ^ places
  pub in_range : n < cap

pub near_held : {n : ℕ} → Held n → near n 1 ≡ n
near_held h = ap (λ (k : ℕ). near k 1) h.is ∙ near_fixes h.digits h.places h.small ∙ sym h.is

pub held_zero : Held 0
held_zero = record { digits = 0; places = 0; small = pow_pos 24; is = refl; in_range = cap_pos }

-- a whole number below 16, in units
held_whole : (k : ℕ) → k < 16 → Held (k * one)
unfolding one limit
held_whole k h = record { digits = k; places = 149; small = lt_of_lt_of_le h (lit≤ tt); is = refl; in_range = lt_of_lt_of_le (shl_lt 4 149 h) (lit≤ tt) }

pub held_one : Held one
held_one = subst Held (one-mul one) (held_whole 1 (lit< tt))

pub held_2 : Held (2 * one)
held_2 = held_whole 2 (lit< tt)

pub held_3 : Held (3 * one)
held_3 = held_whole 3 (lit< tt)

pub held_4 : Held (4 * one)
held_4 = held_whole 4 (lit< tt)

pub held_double : {n : ℕ} → Held n → 2 * n < cap → Held (2 * n)
held_double {n} h l =
    record { digits = h.digits; places = suc h.places; small = h.small; is = twice h.digits h.places h.is; in_range = l }
  where
    twice : (q j : ℕ) → n ≡ q * 2 ^ j → 2 * n ≡ q * 2 ^ suc j
    twice q j e = let f : q * 2 ^ suc j ≡ q * (2 * 2 ^ j) = ap (λ (k : ℕ). q * k) (pow-succ' 2 j) in omega arith

-- ---- a value that fits

mag_held : (s : Bool) (m : ℕ) (e : ℤ) → T (fits binary32 (fin s m e)) → Held (mag (fin s m e))
unfolding limit
mag_held s m e t =
    let u = finite_units binary32 s m e t in
    let q = u.0 in
    let j = u.1 in
    let v : mag (fin s m e) ≡ q * 2 ^ j = mag_at (fin s m e) s (q * 2 ^ j) u.4 in
    record { digits = q; places = j; small = u.2; is = v; in_range = subst (λ (n : ℕ). n < 2 ^ 277) (sym v) (lt_of_lt_of_le (shl_lt 24 j u.2) (pow_mono u.3)) }

pub plus_held : (x : Float) → Number x → Held (plus x)
unfolding plus
plus_held nan X = held_zero
plus_held (inf s) X = held_zero
plus_held (fin true m e) X = held_zero
plus_held (fin false m e) X = mag_held false m e X.holds
