-- Bounds and errors of binary32 arithmetic, in units. `In x lo hi` says that x is finite, that binary32 holds it, and that it lies from -lo to hi.
-- A sum, product or quotient whose exact value lies between two numbers that binary32 holds is finite, and lies between them too, since rounding keeps the order and leaves those two as they are (`add_in`, `mul_in`, `div_in`).
-- A sum whose exact value is at most b in size differs from it by at most b / 2 ^ 24 (`add_error`). The opposite exact value rounds to the opposite (`add_opposite`, `mul_opposite`). Assumes nothing.
use mathlib.Core.Path.{◌≡◌, refl, sym, ap, ◌∙◌, subst}
use mathlib.Core.Bool.{Bool, true, false}
use Prim.Native.Nat.{ℕ, ◌+◌, ◌-◌, ◌*◌, ◌≤◌, ◌<◌}
use native.Mathlib.Nat.{le_trans, le_of_eq, le_refl, lt_of_le_of_lt, add_comm, mul-zero, mul-one, mul-le-mul, mul-le-mul_right}
use native.Mathlib.Omega.{arith}
use lib.Dec.{T}
use lib.Arith.{le-zero}
use lib.Pow.{pow_pos}
use lib.IntN.{ℤ}
use lib.Ieee.{Float, nan, inf, fin, binary32, neg, add, sub, mul, div, fits}
use lib.Ieee.Fits.{neg-fits, add-fits, mul-fits, div-fits}
use lib.Ieee.Scale.{finite}
use Rattle.elementary.specs.Units.{mag}
use Rattle.units.specs.Units.{Number, one, plus, minus}
use Rattle.units.proofs.Near.{near, near_mono, near_error, Error}
use Rattle.units.proofs.Held.{one_pos, Held, near_held}
use Rattle.units.proofs.Rounded.{Rounded, Value, value, add_rounded, mul_rounded, div_rounded}

-- ---- values within bounds

pub record In (x : Float) (lo hi : ℕ) : Type 0 where
  pub number : Number x
  pub low : minus x ≤ lo
  pub high : plus x ≤ hi

-- in its own bounds
pub in_own : {x : Float} → Number x → In x (minus x) (plus x)
in_own {x} n = record { number = n; low = le_refl (minus x); high = le_refl (plus x) }

pub in_wider : {x : Float} {lo hi l h : ℕ} → In x lo hi → lo ≤ l → hi ≤ h → In x l h
in_wider i a b = record { number = i.number; low = le_trans i.low a; high = le_trans i.high b }

-- a rounded value's bounds are the exact value's, where binary32 holds them
within : (p w b : ℕ) → 0 < w → Held b → p ≤ b * w → near p w ≤ b
within p w b W B h = le_trans (near_mono p w b 1 W (pow_pos 0) (le_trans (le_of_eq (mul-one p)) h)) (le_of_eq (near_held B))

rounded_value : (z : Float) (p m w lo hi : ℕ) → Rounded z p m w → 0 < w → Held lo → Held hi → m ≤ lo * w → p ≤ hi * w → Value z (near p w) (near m w)
rounded_value z p m w lo hi r W L H a b = value z p m w r W (lt_of_le_of_lt (within p w hi W H b) H.in_range) (lt_of_le_of_lt (within m w lo W L a) L.in_range)

rounded_in : (z : Float) (p m w lo hi : ℕ) → T (fits binary32 z) → Rounded z p m w → 0 < w → Held lo → Held hi → m ≤ lo * w → p ≤ hi * w → In z lo hi
rounded_in z p m w lo hi f r W L H a b =
    let v = rounded_value z p m w lo hi r W L H a b in
    record {
      number = record { is_finite = v.is_finite; holds = f };
      low = le_trans (le_of_eq v.is_minus) (within m w lo W L a);
      high = le_trans (le_of_eq v.is_plus) (within p w hi W H b);
    }

-- ---- the opposite: -x has x's units, changed over

abbrev pub Opposite : Float → Float → Type 0
Opposite x y = (plus y ≡ minus x) × (minus y ≡ plus x)

mag_sign : (s t : Bool) (m : ℕ) (e : ℤ) → mag (fin s m e) ≡ mag (fin t m e)
unfolding mag
mag_sign s t m e = refl

pub neg_opposite : (x : Float) → Opposite x (neg x)
unfolding neg plus minus
neg_opposite nan = (refl, refl)
neg_opposite (inf s) = (refl, refl)
neg_opposite (fin true m e) = (mag_sign false true m e, refl)
neg_opposite (fin false m e) = (refl, mag_sign true false m e)

neg_finite : (x : Float) → T (finite x) → T (finite (neg x))
unfolding neg
neg_finite nan t = t
neg_finite (inf s) t = t
neg_finite (fin s m e) t = tt

pub neg_in : {x : Float} {lo hi : ℕ} → In x lo hi → In (neg x) hi lo
neg_in {x} i =
    let o = neg_opposite x in
    record {
      number = record { is_finite = neg_finite x i.number.is_finite; holds = neg-fits binary32 x i.number.holds };
      low = le_trans (le_of_eq o.1) i.high;
      high = le_trans (le_of_eq o.0) i.low;
    }

-- ---- sums

module _ {x y : Float} {lo hi a b c d : ℕ} (X : In x a b) (Y : In y c d) (L : Held lo) (H : Held hi)
    (l : minus x + minus y ≤ plus x + plus y + lo) (h : plus x + plus y ≤ minus x + minus y + hi) where
  rounded_sum : Rounded (add binary32 x y) (plus x + plus y - (minus x + minus y)) (minus x + minus y - (plus x + plus y)) 1
  rounded_sum = add_rounded x y X.number Y.number

  pub add_value : Value (add binary32 x y) (near (plus x + plus y - (minus x + minus y)) 1) (near (minus x + minus y - (plus x + plus y)) 1)
  add_value = rounded_value (add binary32 x y) _ _ 1 lo hi rounded_sum (pow_pos 0) L H (omega arith) (omega arith)

  pub add_in : In (add binary32 x y) lo hi
  add_in = rounded_in (add binary32 x y) _ _ 1 lo hi (add-fits binary32 x y) rounded_sum (pow_pos 0) L H (omega arith) (omega arith)

-- z is (p - n) units, up to b / 2 ^ 24
abbrev pub Off : Float → ℕ → ℕ → ℕ → Type 0
Off z p n b = ((plus z + n) * 16777216 ≤ (minus z + p) * 16777216 + b) × ((minus z + p) * 16777216 ≤ (plus z + n) * 16777216 + b)

off : (u v p n b : ℕ) → Error (p - n) u → Error (n - p) v → p ≤ n + b → n ≤ p + b
    → ((u + n) * 16777216 ≤ (v + p) * 16777216 + b) × ((v + p) * 16777216 ≤ (u + n) * 16777216 + b)
off u v p n b e f h k = (omega arith, omega arith)

pub add_error : {x y : Float} {a b c d e : ℕ} → In x a b → In y c d → Held e → minus x + minus y ≤ plus x + plus y + e → plus x + plus y ≤ minus x + minus y + e
    → Off (add binary32 x y) (plus x + plus y) (minus x + minus y) e
add_error {x} {y} {e = e} X Y E l h =
    let p = plus x + plus y in
    let n = minus x + minus y in
    let k = add_value X Y E E l h in
    off (plus (add binary32 x y)) (minus (add binary32 x y)) p n e (subst (Error (p - n)) (sym k.is_plus) (near_error (p - n))) (subst (Error (n - p)) (sym k.is_minus) (near_error (n - p))) h l

-- the opposite sum
pub add_opposite : {x y x' y' : Float} {lo hi a b c d a' b' c' d' : ℕ} → In x a b → In y c d → In x' a' b' → In y' c' d' → Opposite x x' → Opposite y y' → Held lo → Held hi
    → minus x + minus y ≤ plus x + plus y + lo → plus x + plus y ≤ minus x + minus y + hi → Opposite (add binary32 x y) (add binary32 x' y')
add_opposite {x} {y} {x'} {y'} X Y X' Y' O Q L H l h =
    let k = add_value X Y L H l h in
    let p : plus x' + plus y' ≡ minus x + minus y = cc (O.0, Q.0) in
    let n : minus x' + minus y' ≡ plus x + plus y = cc (O.1, Q.1) in
    let j = add_value X' Y' H L (omega arith) (omega arith) in
    (j.is_plus ∙ cc (p, n, k.is_minus), j.is_minus ∙ cc (p, n, k.is_plus))

-- ---- differences

pub sub_is : (x y : Float) → sub binary32 x y ≡ add binary32 x (neg y)
unfolding sub
sub_is x y = refl

pub sub_in : {x y : Float} {lo hi a b c d : ℕ} → In x a b → In y c d → Held lo → Held hi → minus x + plus y ≤ plus x + minus y + lo → plus x + minus y ≤ minus x + plus y + hi
    → In (sub binary32 x y) lo hi
sub_in {x} {y} X Y L H l h =
    let o = neg_opposite y in
    rw (sub_is x y) (add_in X (neg_in Y) L H (omega arith) (omega arith))

pub sub_error : {x y : Float} {a b c d e : ℕ} → In x a b → In y c d → Held e → minus x + plus y ≤ plus x + minus y + e → plus x + minus y ≤ minus x + plus y + e
    → Off (sub binary32 x y) (plus x + minus y) (minus x + plus y) e
sub_error {x} {y} X Y E l h =
    let o = neg_opposite y in
    let g = add_error X (neg_in Y) E (omega arith) (omega arith) in
    rw (sub_is x y) (omega arith)

-- ---- products by a y that is not negative

module _ {x y : Float} {l h a b c : ℕ} (X : In x a b) (Y : In y 0 c) (L : Held l) (H : Held h) (u : a * c ≤ l * one) (v : b * c ≤ h * one) where
  upper : plus x * plus y + minus x * minus y ≤ h * one
  upper =
      let w : minus x * minus y ≡ 0 = ap (λ (k : ℕ). minus x * k) (le-zero Y.low) ∙ mul-zero (minus x) in
      let g = mul-le-mul X.high Y.high in
      omega arith

  lower : plus x * minus y + minus x * plus y ≤ l * one
  lower =
      let w : plus x * minus y ≡ 0 = ap (λ (k : ℕ). plus x * k) (le-zero Y.low) ∙ mul-zero (plus x) in
      let g = mul-le-mul X.low Y.high in
      omega arith

  rounded_product : Rounded (mul binary32 x y) (plus x * plus y + minus x * minus y) (plus x * minus y + minus x * plus y) one
  rounded_product = mul_rounded x y X.number Y.number

  pub mul_value : Value (mul binary32 x y) (near (plus x * plus y + minus x * minus y) one) (near (plus x * minus y + minus x * plus y) one)
  mul_value = rounded_value (mul binary32 x y) _ _ one l h rounded_product one_pos L H lower upper

  pub mul_in : In (mul binary32 x y) l h
  mul_in = rounded_in (mul binary32 x y) _ _ one l h (mul-fits binary32 x y) rounded_product one_pos L H lower upper

pub mul_opposite : {x x' y : Float} {l h a b c : ℕ} → In x a b → In x' b a → In y 0 c → Opposite x x' → Held l → Held h → a * c ≤ l * one → b * c ≤ h * one
    → Opposite (mul binary32 x y) (mul binary32 x' y)
mul_opposite {x} {x'} {y} X X' Y O L H u v =
    let k = mul_value X Y L H u v in
    let j = mul_value X' Y H L v u in (
      j.is_plus ∙ ap (λ (n : ℕ). near n one) (cc (O.0, O.1, add_comm (minus x * plus y) (plus x * minus y))) ∙ sym k.is_minus,
      j.is_minus ∙ ap (λ (n : ℕ). near n one) (cc (O.0, O.1, add_comm (minus x * minus y) (plus x * plus y))) ∙ sym k.is_plus,
    )

-- ---- quotients by a y above zero

pub div_in : {x y : Float} {l h a b c d : ℕ} → In x a b → In y c d → 0 < plus y → Held l → Held h → a * one ≤ l * plus y → b * one ≤ h * plus y → In (div binary32 x y) l h
div_in {x} {y} {l} {h} X Y P L H u v =
    rounded_in (div binary32 x y) (plus x * one) (minus x * one) (plus y) l h (div-fits binary32 x y)
    (div_rounded x y X.number Y.number P) P L H
    (le_trans (mul-le-mul_right one X.low) u) (le_trans (mul-le-mul_right one X.high) v)
