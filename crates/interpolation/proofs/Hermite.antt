-- The four cubics of the weights at a t from 0 to 1, in binary32: each is finite, and within small bounds. Each operation's exact result lies between numbers that binary32 holds, and so does the rounded one.
-- That 2 t3 stays at most 3 t2 when both are rounded: t3 ≤ t2 after rounding, a product by 2 is exact, and rounding keeps the order. Assumes nothing.
use Prim.Native.Nat.{◌*◌, ◌≤◌}
use native.Mathlib.Nat.{le_trans, le_refl}
use native.Mathlib.Omega.{arith}
use lib.Ieee.{Float, neg}
use Rattle.elementary.specs.Notation.{◌⊕◌, ◌⊖◌, ◌⊗◌, lit}
use Rattle.units.specs.Units.{one, plus}
use Rattle.units.proofs.Held.{held_zero, held_one, held_2, held_3}
use Rattle.units.proofs.Bounds.{In, neg_in, add_in, sub_in, mul_in}
use Rattle.units.proofs.Literals.{one_in, one_value, two_in, held_twice, own, twice_one, shrinks, twice, twice_is, thrice, thrice_ge}

abbrev pub sq : Float → Float
sq t = t ⊗ t

abbrev pub cu : Float → Float
cu t = t ⊗ t ⊗ t

-- 2 t3 - 3 t2 + 1, which falls from 1 to 0
abbrev pub fall : Float → Float
fall t = lit 0x40000000 ⊗ cu t ⊖ lit 0x40400000 ⊗ sq t ⊕ lit 0x3f800000

-- -2 t3 + 3 t2, which rises from 0 to 1
abbrev pub rise : Float → Float
rise t = neg (lit 0x40000000) ⊗ cu t ⊕ lit 0x40400000 ⊗ sq t

-- t3 - 2 t2 + t, by the slope at the start
abbrev pub before : Float → Float
before t = cu t ⊖ lit 0x40000000 ⊗ sq t ⊕ t

-- t3 - t2, by the slope at the end
abbrev pub after : Float → Float
after t = cu t ⊖ sq t

module _ {t : Float} (I : In t 0 one) where
  t2 : In (sq t) 0 (plus t)
  t2 = shrinks I (le_refl one) I

  t3 : In (cu t) 0 (plus (sq t))
  t3 = shrinks t2 I.high I

  t2_one : plus (sq t) ≤ one
  t2_one = le_trans t2.high I.high

  two3 : In (lit 0x40000000 ⊗ cu t) 0 (2 * plus (cu t))
  two3 = twice t3 t2_one

  three2 : In (lit 0x40400000 ⊗ sq t) 0 (3 * one)
  three2 = thrice t2 I.high

  two_three : 2 * plus (cu t) ≤ plus (lit 0x40400000 ⊗ sq t)
  two_three = thrice_ge t2 I.high (held_twice t3 t2_one) t3.high

  dip : In (lit 0x40000000 ⊗ cu t ⊖ lit 0x40400000 ⊗ sq t) (3 * one) 0
  dip = sub_in two3 three2 held_3 held_zero (omega (arith, two3, three2)) (omega (arith, two3, two_three, three2))

  pub fall_in : In (fall t) (2 * one) one
  fall_in = add_in dip one_in held_2 held_one (omega (arith, dip, one_value)) (omega (arith, dip, one_value))

  minus_two3 : In (neg (lit 0x40000000) ⊗ cu t) (2 * plus (cu t)) 0
  minus_two3 = mul_in (neg_in two_in) (own t3 t2_one) (held_twice t3 t2_one) held_zero (twice_one t3 t2_one) (omega arith)

  pub rise_in : In (rise t) 0 (3 * one)
  rise_in = add_in minus_two3 three2 held_zero held_3 (omega (arith, minus_two3, two_three, three2)) (omega (arith, minus_two3, three2))

  inner : In (cu t ⊖ lit 0x40000000 ⊗ sq t) (2 * plus (sq t)) 0
  inner =
      let two2 = twice t2 I.high in
      let is = twice_is t2 I.high in
      sub_in t3 two2 (held_twice t2 I.high) held_zero (omega (arith, t3)) (omega (arith, t3))

  pub before_in : In (before t) one one
  before_in = add_in inner I held_one held_one (omega (arith, inner, t2, t2_one)) (omega (arith, inner, t2))

  pub after_in : In (after t) one 0
  after_in = sub_in t3 t2 held_one held_zero (omega (arith, t3, t2, t2_one)) (omega (arith, t3, t2))
