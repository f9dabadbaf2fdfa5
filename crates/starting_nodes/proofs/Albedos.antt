-- The albedos of starting, for a decay d from 2 to 8 and an n from 2 to 1,024: they rise (`albedos`), are at most 2 (`sample_two`), and begin with +0 (`first`).
-- Each is (1 - E) / (1 - E(-d)). In parts of 2 ^ -40, one of which is `z` units, the E of neighbours differ by 470,000. Of a difference up to 1 and of a quotient below 2 rounding moves each by at most 65,536, so 1 - E still differ by 338,928,
-- and, the divisor being at most 1, the quotients by 207,856 (`albedo_step`). The divisor is above 1/2 (`C_above`), so no quotient is 2 or more before it is rounded. Assumes nothing.
use mathlib.Core.Path.{◌≡◌, refl, sym, ap, ◌∙◌, subst}
use mathlib.Core.Bool.{true, false}
use Prim.Native.Nat.{ℕ, suc, zero-le, ◌+◌, ◌-◌, ◌*◌, ◌^◌, ◌≤◌, ◌<◌}
use native.Mathlib.Nat.{le_trans, le_of_eq, le_of_lt, lt_of_le_of_lt, zero-mul, mul-one, mul-le-mul_left, mul-le-mul_right, le_of_mul-le-mul_right, sub-le}
use native.Mathlib.Omega.{arith}
use lib.Dec.{T, lit<}
use lib.Pow.{pow_pos}
use lib.Ieee.{Float, binary32, of_int, neg, fits, is_nan, lt, le, sub, add, mul, div, of_bits}
use lib.Ieee.Fits.{div-fits}
use Rattle.elementary.specs.Notation.{◌⊖◌, ◌⊘◌, lit}
use Rattle.elementary.specs.Convert.{rounded}
use Rattle.elementary.specs.Exponential.{exp, series, terms, squared}
use Rattle.elementary.proofs.Values.{unique}
use Rattle.scattering.specs.Literals.{one}
use Rattle.starting_nodes.specs.Nodes.{rho_sample}
use Rattle.elementary.proofs.Signs.{neg_at}
use Rattle.interpolation.proofs.Rising.{Rising}
use Rattle.units.proofs.Near.{near_to, near_none, rest_off, OffBy}
use Rattle.units.proofs.Sizes.{unit, unit_pos, limit, limit_pos, InUnits, within, div_at, minus_at}
use Rattle.starting_nodes.proofs.Exponentials.{o, z, z_is, z_pos, o_under, most32, off32, exp_n, exp_at, exp_top, exp_apart, exp_quarter, Inside, inside_9}
use Rattle.starting_nodes.proofs.Arguments.{zero_at, one_at, exponent, argument, argument_zero, argument_at, argument_inside, argument_step, Range}

-- ---- 1 - E

unfoldable pub rest_n : ℕ → ℕ
rest_n m = near_to 24 (o - exp_n m) 1

module _ (m : ℕ) (i : Inside m) where
  rest_in : o - exp_n m ≤ o * 1
  rest_in = le_trans (sub-le o (exp_n m)) (le_of_eq (sym (mul-one o)))

  rest_top : rest_n m ≤ o
  unfolding rest_n
  rest_top = most32 (o - exp_n m) 1 (pow_pos 0) rest_in

  rest_at : (x : Float) → InUnits binary32 x true m → InUnits binary32 (one ⊖ exp x) false (rest_n m)
  unfolding rest_n
  rest_at x v = minus_at binary32 one (exp x) o (exp_n m) one_at (exp_at x m v (inside_9 i)) (exp_top m (inside_9 i)) (lt_of_le_of_lt rest_top o_under)

  -- 1 - E, up to 2 ^ -24
  one_less : (rest_n m + exp_n m ≤ o + 65536 * z) × (o ≤ rest_n m + exp_n m + 65536 * z)
  unfolding rest_n
  one_less = rest_off (exp_n m) (rest_n m) o (65536 * z) (exp_top m (inside_9 i)) (off32 (o - exp_n m) 1 (pow_pos 0) (lt_of_le_of_lt rest_in (omega (arith, unit_pos binary32))))

-- ---- zeros

minus_0_at : InUnits binary32 (neg (lit 0)) true 0
minus_0_at = neg_at (lit 0) false 0 o zero_at

zero_fits : T (fits binary32 (lit 0)) × T (fits binary32 (neg (lit 0)))
unfolding of_bits neg fits
zero_fits = (tt, tt)

one_less_one : one ⊖ exp (neg (lit 0)) ≡ lit 0
unfolding exp series terms squared rounded is_nan lt le neg sub add mul div of_int of_bits
one_less_one = refl

-- ---- the quotient by 1 - E(-d), which is C units

two_under : 1 * 2 ^ 150 < limit binary32
unfolding limit
two_under = lit< tt

two_is : 1 * 2 ^ 150 ≡ 2 * o
unfolding unit
two_is = refl

unfoldable pub albedo_n : ℕ → ℕ → ℕ
albedo_n C m = near_to 24 (rest_n m * o) C

module _ (C : ℕ) (above : o < 2 * C) (top : C ≤ o) where
  C_pos : 0 < C
  C_pos = omega (arith, above)

  module _ (m : ℕ) (i : Inside m) where
    albedo_in : rest_n m * o < 2 * o * C
    albedo_in =
        let a : rest_n m * o ≤ o * o = mul-le-mul_right o (rest_top m i) in
        let b : suc o * o ≤ 2 * C * o = mul-le-mul_right o above in
        omega (arith, unit_pos binary32)

    albedo_off : OffBy (albedo_n C m) (rest_n m * o) C (65536 * z)
    unfolding albedo_n
    albedo_off = off32 (rest_n m * o) C C_pos albedo_in

    albedo_top : albedo_n C m ≤ 1 * 2 ^ 150
    unfolding albedo_n unit
    albedo_top = within binary32 (rest_n m * o) C 1 150 C_pos (lit< tt) (le_of_lt albedo_in)

    albedo_at : (x y : Float) → InUnits binary32 x true m → InUnits binary32 y false C → InUnits binary32 ((one ⊖ exp x) ⊘ y) false (albedo_n C m)
    unfolding albedo_n
    albedo_at x y v w = div_at binary32 (one ⊖ exp x) y false (rest_n m) C o C_pos (unit_pos binary32) (rest_at m i x v) w (lt_of_le_of_lt albedo_top two_under)

  albedo_step : (m m' : ℕ) → Inside m → Inside m' → m + 2148000000 * z ≤ m' → albedo_n C m < albedo_n C m'
  albedo_step m m' i i' h =
      let a = one_less m i in
      let a' = one_less m' i' in
      let e = exp_apart m m' i i' h in
      let g : rest_n m + 338928 * z ≤ rest_n m' = omega (arith, a.0, a'.1) in
      let b : (rest_n m + 338928 * z) * o ≤ rest_n m' * o = mul-le-mul_right o g in
      let c : z * C ≤ z * o = mul-le-mul_left z top in
      let f = albedo_off m i in
      let f' = albedo_off m' i' in
      let j : (albedo_n C m + 207856 * z) * C ≤ albedo_n C m' * C = omega (arith, f.0, f'.1) in
      let k : albedo_n C m + 207856 * z ≤ albedo_n C m' = le_of_mul-le-mul_right j C_pos in
      omega (arith, z_pos)

-- ---- the albedos

module _ (d : Float) (D c : ℕ) (v : InUnits binary32 d false D) (r : Range D c) where
  -- 1 - E(-d) is above 1/2
  whole : Inside D
  whole = record { high = omega (arith, r.greatest) }

  C_above : o < 2 * rest_n D
  C_above = omega (arith, (one_less D whole).1, exp_quarter D whole r.least, z_is, z_pos)

  C_at : InUnits binary32 (one ⊖ exp (neg d)) false (rest_n D)
  C_at = rest_at D whole (neg d) (neg_at d false D o v)

  -- the albedo i, in units
  abbrev pub sample : ℕ → ℕ
  sample i = albedo_n (rest_n D) (argument D c i)

  pub sample_at : (i : ℕ) → i ≤ c → InUnits binary32 (rho_sample d (suc c) i) false (sample i)
  unfolding rho_sample
  sample_at i l =
      albedo_at (rest_n D) C_above (rest_top D whole) (argument D c i) (argument_inside D c i r l) (exponent d (suc c) i) (one ⊖ exp (neg d)) (argument_at D c i r l d v) C_at

  sample_top : (i : ℕ) → i ≤ c → sample i ≤ 1 * 2 ^ 150
  sample_top i l = albedo_top (rest_n D) C_above (rest_top D whole) (argument D c i) (argument_inside D c i r l)

  pub sample_two : (i : ℕ) → i ≤ c → sample i ≤ 2 * o
  sample_two i l = le_trans (sample_top i l) (le_of_eq two_is)

  pub albedos : Rising (suc c) (rho_sample d (suc c))
  albedos =
      record {
        size = sample;
        at = λ i l. sample_at i (omega arith);
        step = λ i l. step i (omega arith);
        digits = 1;
        places = 150;
        small = lit< tt;
        held = two_under;
        top = sample_top (suc c - 1) (omega arith);
      }
    where
      step : (i : ℕ) → i < c → sample i < sample (i + 1)
      step i l =
          let e : suc i ≡ i + 1 = omega arith in
          subst (λ (k : ℕ). sample i < sample k) e
          (albedo_step (rest_n D) C_above (rest_top D whole) (argument D c i) (argument D c (suc i)) (argument_inside D c i r (le_of_lt l)) (argument_inside D c (suc i) r l) (argument_step D c i r l))

  -- the first is 0: its exponent is -0, and E of that is 1
  pub first : rho_sample d (suc c) 0 ≡ lit 0
  unfolding rho_sample unit
  first =
      let x = exponent d (suc c) 0 in
      let y = one ⊖ exp (neg d) in
      let a : x ≡ neg (lit 0) = unique binary32 x (neg (lit 0)) true 0 (div-fits binary32 _ _) zero_fits.1 (subst (λ (k : ℕ). InUnits binary32 x true k) (argument_zero D c r.some) (argument_at D c 0 r (zero-le) d v)) minus_0_at in
      let p = C_pos (rest_n D) C_above (rest_top D whole) in
      let e = near_none (0 * o) (rest_n D) p (zero-mul o) in
      let b : (one ⊖ exp x) ⊘ y ≡ lit 0 ⊘ y = ap (λ (e : Float). (one ⊖ exp e) ⊘ y) a ∙ ap (λ (e : Float). e ⊘ y) one_less_one in
      b ∙ unique binary32 (lit 0 ⊘ y) (lit 0) false 0 (div-fits binary32 _ _) zero_fits.0
      (subst (λ (k : ℕ). InUnits binary32 (lit 0 ⊘ y) false k) e
      (div_at binary32 (lit 0) y false 0 (rest_n D) o p (unit_pos binary32) zero_at C_at (subst (λ (k : ℕ). k < limit binary32) (sym e) (limit_pos binary32)))) zero_at
