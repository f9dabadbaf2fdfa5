-- The arguments -d * i / (n - 1) at which starting takes E, for a decay d from 2 to 8 and an n from 2 to 1,024: `argument D (n - 1) i` is the size, in units, where d has D of them (`argument_at`).
-- It is at most 8 + 1/256 (`argument_inside`), and neighbours are at least 0.00195 apart (`argument_step`): d / (n - 1), which is 2 / 1,023 or more, less what rounding moves. Of a product below 8,192 that is at most 2 ^ -12, divided by n - 1 afterwards, and of a quotient below 16 at most 2 ^ -21.
-- This is the tightest place: of 1,023 times the distance 4 millionths are to spare. Assumes nothing.
use mathlib.Core.Path.{◌≡◌, refl, sym, ap, ◌∙◌, subst}
use mathlib.Core.Bool.{true, false}
use Prim.Native.Nat.{ℕ, zero, suc, ◌+◌, ◌-◌, ◌*◌, ◌≤◌, ◌<◌}
use native.Mathlib.Nat.{le_trans, le_of_eq, le_of_lt, lt_of_le_of_lt, add-sub_cancel, zero-mul, mul-one, one-mul, mul_comm, mul_right_comm, mul-pos, mul-le-mul, mul-le-mul_left, mul-le-mul_right, mul-lt-mul_of_pos_right, le_of_mul-le-mul_right}
use native.Mathlib.Omega.{arith}
use lib.Dec.{lit<, lit≤}
use lib.Pow.{pow_pos}
use lib.IntN.{pos}
use lib.Ieee.{Float, nan, inf, fin, binary32, up, down, of_int, of_bits, neg}
use lib.Ieee.Back.{round_whole}
use lib.Ieee.Exact.{HasValue}
use Rattle.elementary.specs.Notation.{◌⊖◌, ◌⊗◌, ◌⊘◌, lit}
use Rattle.scattering.specs.Literals.{one}
use Rattle.elementary.proofs.Signs.{neg_at}
use Rattle.units.proofs.Near.{near_to, near_to_off, near_to_fixes, near_none, OffBy}
use Rattle.units.proofs.Sizes.{unit, unit_pos, limit, InUnits, within, mul_at, div_at, minus_at}
use Rattle.starting_nodes.proofs.Exponentials.{o, z, z_is, Inside}

-- ---- whole numbers

in_units : (x : Float) (k : ℕ) → HasValue x false k 1 → InUnits binary32 x false (k * o)
in_units nan k v = absurd v
in_units (inf s) k v = absurd v
in_units (fin s m e) k v = (v.0, ap (λ (n : ℕ). n * o) (sym (mul-one (m * up e)) ∙ v.1) ∙ mul_right_comm k (down e) o)

whole_at : (k : ℕ) → k ≤ 1024 → InUnits binary32 (of_int binary32 (pos k)) false (k * o)
unfolding of_int
whole_at k h = in_units (of_int binary32 (pos k)) k (round_whole binary32 false k (le_trans h (lit≤ tt)))

pub zero_at : InUnits binary32 (lit 0) false 0
unfolding of_bits
zero_at = (refl, zero-mul o)

pub one_at : InUnits binary32 one false o
unfolding of_bits
one_at = (refl, mul_comm 1 o)

-- a fraction up to 8,193, rounded, is no infinity
wide_under : (n c : ℕ) → 0 < c → n ≤ 8193 * o * c → near_to 24 n c < limit binary32
unfolding unit limit
wide_under n c C h = lt_of_le_of_lt (within binary32 n c 8193 149 C (lit< tt) h) (lit< tt)

less_one : (k : ℕ) → 1 ≤ k → k * o - o ≡ (k - 1) * o
less_one zero h = absurd (omega arith)
less_one (suc k) h =
    let e : suc k * o ≡ k * o + o = omega arith in
    let g : k ≡ suc k - 1 = omega arith in
    ap (λ (n : ℕ). n - o) e ∙ add-sub_cancel (k * o) o ∙ ap (λ (n : ℕ). n * o) g

-- n - 1
pub count_at : (n : ℕ) → 1 ≤ n → n ≤ 1024 → InUnits binary32 (of_int binary32 (pos n) ⊖ one) false ((n - 1) * o)
unfolding unit
count_at n h l =
    let e : near_to 24 (n * o - o) 1 ≡ (n - 1) * o = ap (λ (k : ℕ). near_to 24 k 1) (less_one n h) ∙ near_to_fixes 24 (n - 1) 149 (lt_of_le_of_lt {m = 1024} (omega arith) (lit< tt)) in
    let g : (n - 1) * o ≤ 8193 * o * 1 = le_trans (mul-le-mul_right {m = n - 1} {n = 8193} o (omega arith)) (le_of_eq (sym (mul-one (8193 * o)))) in
    subst (λ (k : ℕ). InUnits binary32 (of_int binary32 (pos n) ⊖ one) false k) e
    (minus_at binary32 (of_int binary32 (pos n)) one (n * o) o (whole_at n l) one_at (le_trans (le_of_eq (sym (one-mul o))) (mul-le-mul_right o h))
    (wide_under (n * o - o) 1 (pow_pos 0) (le_trans (le_of_eq (less_one n h)) g)))

-- ---- the errors of values below 8,192 and below 16

off_wide : (n c : ℕ) → 0 < c → n < 8192 * o * c → OffBy (near_to 24 n c) n c (268435456 * z)
unfolding unit z
off_wide n c C h = near_to_off 24 137 n c C h

off_16 : (n c : ℕ) → 0 < c → n < 16 * o * c → OffBy (near_to 24 n c) n c (524288 * z)
unfolding unit z
off_16 n c C h = near_to_off 24 128 n c C h

smaller : (a b : ℕ) → a < b → a * o < b * o
smaller a b h = mul-lt-mul_of_pos_right h (unit_pos binary32)

-- ---- the argument

abbrev pub exponent : Float → ℕ → ℕ → Float
exponent d n i = neg d ⊗ of_int binary32 (pos i) ⊘ (of_int binary32 (pos n) ⊖ one)

unfoldable pub multiple : ℕ → ℕ → ℕ
multiple D i = near_to 24 (D * (i * o)) o

unfoldable pub argument : ℕ → ℕ → ℕ → ℕ
argument D c i = near_to 24 (multiple D i * o) (c * o)

pub argument_zero : (D c : ℕ) → 1 ≤ c → argument D c 0 ≡ 0
unfolding argument multiple
argument_zero D c C =
    let a : near_to 24 (D * (0 * o)) o ≡ 0 = near_none (D * (0 * o)) o (unit_pos binary32) (omega arith) in
    near_none (near_to 24 (D * (0 * o)) o * o) (c * o) (mul-pos C (unit_pos binary32)) (ap (λ (k : ℕ). k * o) a ∙ zero-mul o)

-- d from 2 to 8, and i up to c, from 1 to 1,023
pub record Range (D c : ℕ) : Type 0 where
  pub least : 2 * o ≤ D
  pub greatest : D ≤ 8 * o
  pub some : 1 ≤ c
  pub many : c ≤ 1023

module _ (D c i : ℕ) (r : Range D c) (I : i ≤ c) where
  product : D * i ≤ 8 * o * c
  product = mul-le-mul r.greatest I

  multiple_in : D * (i * o) ≤ 8184 * o * o
  multiple_in =
      let a : D * i * o ≤ 8 * o * c * o = mul-le-mul_right o product in
      let b : c * (o * o) ≤ 1023 * (o * o) = mul-le-mul_right (o * o) r.many in
      omega arith

  multiple_off : (multiple D i ≤ D * i + 268435456 * z) × (D * i ≤ multiple D i + 268435456 * z)
  unfolding multiple
  multiple_off =
      let a : OffBy (near_to 24 (D * (i * o)) o) (D * (i * o)) o (268435456 * z) = off_wide (D * (i * o)) o (unit_pos binary32) (lt_of_le_of_lt multiple_in (mul-lt-mul_of_pos_right (smaller 8184 8192 (lit< tt)) (unit_pos binary32))) in (
        le_of_mul-le-mul_right {m = near_to 24 (D * (i * o)) o} {n = D * i + 268435456 * z} {k = o} (omega (arith, a.0)) (unit_pos binary32),
        le_of_mul-le-mul_right {m = D * i} {n = near_to 24 (D * (i * o)) o + 268435456 * z} {k = o} (omega (arith, a.1)) (unit_pos binary32),
      )

  some_units : 0 < c * o
  some_units = mul-pos r.some (unit_pos binary32)

  -- 8.0003 at most, times c
  multiple_high : multiple D i ≤ 8 * o * c + 268435456 * z * c
  multiple_high =
      let a : 268435456 * z * 1 ≤ 268435456 * z * c = mul-le-mul_left (268435456 * z) r.some in
      omega (arith, multiple_off.0, product)

  quotient_in : multiple D i * o ≤ 9 * o * (c * o)
  quotient_in =
      let a : multiple D i * o ≤ (8 * o * c + 268435456 * z * c) * o = mul-le-mul_right o multiple_high in
      let b : o * (c * o) ≡ 1099511627776 * z * (c * o) = ap (λ (k : ℕ). k * (c * o)) z_is in
      omega arith

  argument_off : (argument D c i * c ≤ multiple D i + 524288 * z * c) × (multiple D i ≤ argument D c i * c + 524288 * z * c)
  unfolding argument
  argument_off =
      let a : OffBy (near_to 24 (multiple D i * o) (c * o)) (multiple D i * o) (c * o) (524288 * z) = off_16 (multiple D i * o) (c * o) some_units (lt_of_le_of_lt quotient_in (mul-lt-mul_of_pos_right (smaller 9 16 (lit< tt)) some_units)) in (
        le_of_mul-le-mul_right {m = argument D c i * c} {n = multiple D i + 524288 * z * c} {k = o} (omega (arith, a.0)) (unit_pos binary32),
        le_of_mul-le-mul_right {m = multiple D i} {n = argument D c i * c + 524288 * z * c} {k = o} (omega (arith, a.1)) (unit_pos binary32),
      )

  pub argument_inside : Inside (argument D c i)
  argument_inside =
      let a = argument_off.0 in
      let b = multiple_high in
      let e : o * c ≡ 1099511627776 * z * c = ap (λ (k : ℕ). k * c) z_is in
      record { high = le_of_mul-le-mul_right {m = 256 * argument D c i} {n = 2049 * o} {k = c} (omega arith) r.some }

  pub argument_at : (d : Float) → InUnits binary32 d false D → InUnits binary32 (exponent d (suc c) i) true (argument D c i)
  unfolding argument multiple
  argument_at d v =
      let a : InUnits binary32 (neg d ⊗ of_int binary32 (pos i)) true (multiple D i) =
      mul_at binary32 (neg d) (of_int binary32 (pos i)) true false D (i * o) (neg_at d false D o v) (whole_at i (omega (arith, I, r.many))) (wide_under (D * (i * o)) o (unit_pos binary32) (le_trans multiple_in (mul-le-mul_right o (mul-le-mul_right o (lit≤ tt))))) in
      div_at binary32 (neg d ⊗ of_int binary32 (pos i)) (of_int binary32 (pos (suc c)) ⊖ one) true (multiple D i) (c * o) o some_units (unit_pos binary32) a
      (subst (λ (k : ℕ). InUnits binary32 (of_int binary32 (pos (suc c)) ⊖ one) false (k * o)) less (count_at (suc c) (omega arith) (omega (arith, r.many))))
      (wide_under (multiple D i * o) (c * o) some_units (le_trans quotient_in (mul-le-mul_right (c * o) (mul-le-mul_right o (lit≤ tt)))))
    where
      less : suc c - 1 ≡ c
      less = omega arith

pub argument_step : (D c i : ℕ) → Range D c → i < c → argument D c i + 2148000000 * z ≤ argument D c (suc i)
argument_step D c i r I =
    let a = argument_off D c i r (le_of_lt I) in
    let a' = argument_off D c (suc i) r I in
    let b = multiple_off D c i r (le_of_lt I) in
    let b' = multiple_off D c (suc i) r I in
    let e : D * suc i ≡ D * i + D = omega arith in
    let f : z * c ≤ z * 1023 = mul-le-mul_left z r.many in
    le_of_mul-le-mul_right {m = argument D c i + 2148000000 * z} {n = argument D c (suc i)} {k = c} (omega (arith, a.0, a'.1, b.0, b'.1, z_is, r.least)) r.some
