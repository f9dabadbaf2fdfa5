-- The difference y - x of two finite values with x ≤ y: it is their exact distance, rounded. So it grows with the distance, is above zero where x < y, and no smaller distance overflows. Assumes nothing.
use mathlib.Core.Path.{◌≡◌, sym, ap, ◌∙◌, subst}
use Prim.Native.Nat.{ℕ, ◌+◌, ◌-◌, ◌≤◌, ◌<◌}
use native.Mathlib.Nat.{le_trans, le_of_eq, le_refl, lt_of_le_of_lt, mul_comm, mul-le-mul_right}
use native.Mathlib.Omega.{arith}
use lib.Dec.{T, lit<}
use lib.Pow.{pow_pos}
use lib.Ieee.{Float, binary32, neg, sub, div}
use lib.Ieee.Fits.{sub-fits}
use lib.Ieee.Scale.{finite}
use Rattle.units.specs.Units.{Number, one, plus, minus}
use Rattle.units.proofs.Near.{near, near_mono, near_fixes, near_zero}
use Rattle.units.proofs.Rounded.{cap, cap_pos, Rounded, value, under, add_rounded}
use Rattle.units.proofs.Held.{held_zero, held_one}
use Rattle.units.proofs.Order.{AtMost, Under}
use Rattle.units.proofs.Bounds.{In, in_own, neg_in, neg_opposite, sub_is, div_in}

-- from x up to y, in units
abbrev pub distance : Float → Float → ℕ
distance x y = plus y + minus x - (plus x + minus y)

sub_rounded : {x y : Float} → Number x → Number y → Rounded (sub binary32 y x) (distance x y) (distance y x) 1
sub_rounded {x} {y} X Y =
    let o = neg_opposite x in
    let n = neg_in (in_own X) in
    let p : plus y + plus (neg x) - (minus y + minus (neg x)) ≡ distance x y = omega arith in
    let m : minus y + minus (neg x) - (plus y + plus (neg x)) ≡ distance y x = omega arith in
    rw (sub_is y x) (rw (p, m) at (add_rounded y (neg x) Y n.number))

pub no_overflow : {x y : Float} → Number x → Number y → T (finite (sub binary32 y x)) → near (distance x y) 1 < cap
no_overflow {x} {y} X Y t = (under (sub binary32 y x) (distance x y) (distance y x) 1 (sub_rounded X Y) (pow_pos 0) t).0

near_grows : {a b : ℕ} → a ≤ b → near a 1 ≤ near b 1
near_grows {a} {b} h = near_mono a 1 b 1 (pow_pos 0) (pow_pos 0) (mul-le-mul_right 1 h)

pub record Gap (x y : Float) : Type 0 where
  pub is_finite : T (finite (sub binary32 y x))
  pub is_plus : plus (sub binary32 y x) ≡ near (distance x y) 1
  pub is_minus : minus (sub binary32 y x) ≡ 0

-- where a distance d does not overflow, a smaller one does not
pub gap : {x y : Float} (d : ℕ) → Number x → Number y → AtMost x y → distance x y ≤ d → near d 1 < cap → Gap x y
gap {x} {y} d X Y h l c =
    let e : distance y x ≡ 0 = omega arith in
    let z : near (distance y x) 1 ≡ 0 = ap (λ (k : ℕ). near k 1) e ∙ near_zero 1 (pow_pos 0) in
    let v = value (sub binary32 y x) (distance x y) (distance y x) 1 (sub_rounded X Y) (pow_pos 0) (lt_of_le_of_lt (near_grows l) c) (subst (λ (k : ℕ). k < cap) (sym z) cap_pos) in
    record { is_finite = v.is_finite; is_plus = v.is_plus; is_minus = v.is_minus ∙ z }

pub gap_in : {x y : Float} → Gap x y → In (sub binary32 y x) 0 (plus (sub binary32 y x))
gap_in {x} {y} g = record { number = record { is_finite = g.is_finite; holds = sub-fits binary32 y x }; low = le_of_eq g.is_minus; high = le_refl (plus (sub binary32 y x)) }

pub gap_grows : {x y u v : Float} → Gap x y → Gap u v → distance x y ≤ distance u v → plus (sub binary32 y x) ≤ plus (sub binary32 v u)
gap_grows g k h = le_trans (le_of_eq g.is_plus) (le_trans (near_grows h) (le_of_eq (sym k.is_plus)))

pub gap_pos : {x y : Float} → Gap x y → Under x y → 0 < plus (sub binary32 y x)
gap_pos {x} {y} g h =
    let d : 1 ≤ distance x y = omega arith in
    le_trans (le_of_eq (sym (near_fixes 1 0 (lit< tt)))) (le_trans (near_grows d) (le_of_eq (sym g.is_plus)))

-- a smaller one over a larger is from 0 to 1
pub ratio : {a b : Float} → In a 0 (plus a) → Number b → 0 < plus b → plus a ≤ plus b → In (div binary32 a b) 0 one
ratio {b = b} A B P h = div_in A (in_own B) P held_zero held_one (omega arith) (le_trans (mul-le-mul_right one h) (le_of_eq (mul_comm (plus b) one)))
