-- 0, 1, 2, 3 and 4 in units, by computation; and products of an x from 0 to 1: by another such value it is no larger (`shrinks`), by 2 it is exact (`twice_is`), and by 3 it stays at least twice any smaller value (`thrice_ge`).
-- Each is an exact product between numbers that binary32 holds, rounded. Assumes nothing.
use mathlib.Core.Path.{◌≡◌, refl, sym, ap, ◌∙◌}
use Prim.Native.Nat.{ℕ, ◌+◌, ◌*◌, ◌≤◌}
use native.Mathlib.Nat.{le_trans, le_of_eq, le_refl, lt_of_le_of_lt, mul-le-mul_right, mul-le-mul_left}
use native.Mathlib.Omega.{arith}
use lib.Pow.{pow_pos}
use lib.Ieee.{Float, binary32, of_bits}
use lib.Ieee.Bits.{of_bits-fits}
use Rattle.elementary.specs.Notation.{lit, ◌⊗◌}
use Rattle.elementary.specs.Units.{mag}
use Rattle.units.specs.Units.{one, plus, minus}
use Rattle.units.proofs.Near.{near, near_mono, near_same}
use Rattle.units.proofs.Rounded.{Value}
use Rattle.units.proofs.Held.{one_pos, Held, near_held, held_zero, held_2, held_3, held_double, plus_held}
use Rattle.units.proofs.Bounds.{In, in_wider, mul_in, mul_value}

pub zero_value : Value (lit 0) 0 0
unfolding of_bits plus minus one mag
zero_value = record { is_finite = tt; is_plus = refl; is_minus = refl }

pub one_value : Value (lit 0x3f800000) one 0
unfolding of_bits plus minus one mag
one_value = record { is_finite = tt; is_plus = refl; is_minus = refl }

pub two_value : Value (lit 0x40000000) (2 * one) 0
unfolding of_bits plus minus one mag
two_value = record { is_finite = tt; is_plus = refl; is_minus = refl }

pub three_value : Value (lit 0x40400000) (3 * one) 0
unfolding of_bits plus minus one mag
three_value = record { is_finite = tt; is_plus = refl; is_minus = refl }

pub four_value : Value (lit 0x40800000) (4 * one) 0
unfolding of_bits plus minus one mag
four_value = record { is_finite = tt; is_plus = refl; is_minus = refl }

pub value_in : (b p m : ℕ) → Value (lit b) p m → In (lit b) m p
value_in b p m v = record { number = record { is_finite = v.is_finite; holds = of_bits-fits binary32 b }; low = le_of_eq v.is_minus; high = le_of_eq v.is_plus }

pub zero_in : In (lit 0) 0 0
zero_in = value_in 0 0 0 zero_value

pub one_in : In (lit 0x3f800000) 0 one
one_in = value_in 0x3f800000 one 0 one_value

pub two_in : In (lit 0x40000000) 0 (2 * one)
two_in = value_in 0x40000000 (2 * one) 0 two_value

pub three_in : In (lit 0x40400000) 0 (3 * one)
three_in = value_in 0x40400000 (3 * one) 0 three_value

-- ---- products of an x from 0 to 1

module _ {x : Float} {b : ℕ} (X : In x 0 b) (B : b ≤ one) where
  pub held_twice : Held (2 * plus x)
  held_twice = held_double (plus_held x X.number) (lt_of_le_of_lt (mul-le-mul_left 2 (le_trans X.high B)) held_2.in_range)

  -- in its own bounds, and up to 1
  pub own : In x 0 (plus x)
  own = record { number = X.number; low = X.low; high = le_refl (plus x) }

  up_to_one : In x 0 one
  up_to_one = in_wider X (le_refl 0) B

  pub twice_one : 2 * one * plus x ≤ 2 * plus x * one
  twice_one = omega arith

  -- by a y from 0 to 1: no larger
  pub shrinks : {y : Float} → In y 0 one → In (x ⊗ y) 0 (plus x)
  shrinks Y = mul_in own Y held_zero (plus_held x X.number) (le_refl (0 * one)) (le_refl (plus x * one))

  -- by 2: exact
  pub twice : In (lit 0x40000000 ⊗ x) 0 (2 * plus x)
  twice = mul_in two_in own held_zero held_twice (omega arith) twice_one

  pub twice_is : plus (lit 0x40000000 ⊗ x) ≡ 2 * plus x
  twice_is =
      let v = mul_value two_in own held_zero held_twice (omega arith) twice_one in
      let e : plus (lit 0x40000000) * plus x + minus (lit 0x40000000) * minus x ≡ 2 * one * plus x + 0 * minus x = cc (two_value.is_plus, two_value.is_minus) in
      v.is_plus ∙ ap (λ (k : ℕ). near k one) e ∙ near_same (2 * one * plus x + 0 * minus x) one (2 * plus x) 1 one_pos (pow_pos 0) (omega arith) ∙ near_held held_twice

  -- by 3: no less than 2 n for an n up to x
  pub thrice : In (lit 0x40400000 ⊗ x) 0 (3 * one)
  thrice = mul_in three_in up_to_one held_zero held_3 (le_refl (0 * one)) (le_refl (3 * one * one))

  pub thrice_ge : {n : ℕ} → Held (2 * n) → n ≤ plus x → 2 * n ≤ plus (lit 0x40400000 ⊗ x)
  thrice_ge {n} N h =
      let v = mul_value three_in up_to_one held_zero held_3 (le_refl (0 * one)) (le_refl (3 * one * one)) in
      let e : plus (lit 0x40400000) * plus x + minus (lit 0x40400000) * minus x ≡ 3 * one * plus x + 0 * minus x = cc (three_value.is_plus, three_value.is_minus) in
      let k = mul-le-mul_right one h in
      le_trans (le_of_eq (sym (near_held N)))
      (le_trans (near_mono (2 * n) 1 (3 * one * plus x + 0 * minus x) one (pow_pos 0) one_pos (omega arith)) (le_of_eq (sym (v.is_plus ∙ ap (λ (k : ℕ). near k one) e))))
