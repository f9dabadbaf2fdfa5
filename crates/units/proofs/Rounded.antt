-- A sum, a product and a quotient of finite binary32 values is the exact one, rounded: `Rounded z p m w` says that z is (p - m) / w units, rounded, one of p and m being 0.
-- In units the exact sum of x and y is the difference of plus x + plus y and minus x + minus y, their product has the unit 1 / one, and their quotient is x's units over y's.
-- Where that does not overflow, z is finite, and its units are those of the exact value, rounded (`value`); and where z is finite, nothing overflowed (`under`). Assumes nothing.
use mathlib.Core.Path.{◌≡◌, refl, sym, ap, ◌∙◌, subst}
use mathlib.Core.Bool.{Bool, true, false, not, cond, true≢false, false≢true}
use Prim.Native.Nat.{ℕ, ◌+◌, ◌-◌, ◌*◌, ◌^◌, ◌≤◌, ◌<◌}
use native.Mathlib.Nat.{le_trans, le_of_eq, le_of_lt, lt_of_lt_of_le, lt_of_not-le, lt_irrefl, zero-mul, mul-one, mul_comm, mul_assoc, mul_right_comm, mul-mul-mul_comm, mul-pos, add-mul, mul-le-mul_right, le_of_mul-le-mul_right}
use native.Mathlib.Omega.{arith}
use lib.Dec.{T, ltb, eqb, ltb→lt, nltb→le, eqb→eq, not_T}
use lib.IntN.{ℤ}
use lib.Ieee.{Float, nan, inf, fin, binary32, up, down, unlike, odd, units, round, sum, add, mul, div, fits}
use lib.Ieee.Bits.{cond_no}
use lib.Ieee.Fits.{down_pos, round_is}
use lib.Ieee.Exact.{HasValue}
use lib.Ieee.Order.{drop, kept}
use lib.Ieee.Scale.{finite}
use Rattle.elementary.specs.Units.{mag}
use Rattle.elementary.proofs.Magnitude.{mag_at, mag_exact}
use Rattle.units.specs.Units.{Number, one, plus, minus}
use Rattle.units.proofs.Near.{near, near_to, near_same, near_none}
use Rattle.units.proofs.Sizes.{unit, limit, limit_pos, round_units, apart}

-- from 2 ^ 128 on a value is an infinity: that number in units
abbrev pub cap : ℕ
cap = limit binary32

-- ---- what `round` makes

round_value : (s : Bool) (a c : ℕ) → near (a * one) c < cap → HasValue (round binary32 s a c) s (near (a * one) c) one
unfolding one unit
round_value = round_units binary32

units_under : (s : Bool) (q k : ℕ) → T (finite (units binary32 s q k)) → q * 2 ^ k < cap
unfolding units limit
units_under s q k = go (ltb (q * 2 ^ k) cap) (ltb→lt (q * 2 ^ k) cap)
  where
    go : (b : Bool) → (T b → q * 2 ^ k < cap) → T (finite (cond b (odd 25 s q k 149) (inf s))) → q * 2 ^ k < cap
    go true h t = h tt
    go false h t = absurd t

round_under : (s : Bool) (a c : ℕ) → T (finite (round binary32 s a c)) → near (a * one) c < cap
unfolding near_to one
round_under s a c t = units_under s (kept 24 (a * one) c) (drop 24 (a * one) c) (subst (λ (z : Float). T (finite z)) (round_is binary32 s a c) t)

-- ---- the exact value, rounded

pub record Rounded (z : Float) (p m w : ℕ) : Type 0 where
  pub sign : Bool
  pub num : ℕ
  pub den : ℕ
  pub is : z ≡ round binary32 sign num den
  pub den_pos : 0 < den
  pub same : num * one * w ≡ cond sign m p * den
  pub other : cond sign p m ≡ 0

-- z's units
pub record Value (z : Float) (p m : ℕ) : Type 0 where
  pub is_finite : T (finite z)
  pub is_plus : plus z ≡ p
  pub is_minus : minus z ≡ m

value_of : (z : Float) (s : Bool) (p m : ℕ) → HasValue z s (cond s m p) one → cond s p m ≡ 0 → Value z p m
unfolding plus minus one
value_of nan s p m v o = absurd v
value_of (inf t) s p m v o = absurd v
value_of (fin true n e) true p m v o = record { is_finite = tt; is_plus = sym o; is_minus = mag_at (fin true n e) true m v }
value_of (fin true n e) false p m v o = absurd (true≢false v.0)
value_of (fin false n e) true p m v o = absurd (false≢true v.0)
value_of (fin false n e) false p m v o = record { is_finite = tt; is_plus = mag_at (fin false n e) false p v; is_minus = sym o }

pub value : (z : Float) (p m w : ℕ) → Rounded z p m w → 0 < w → near p w < cap → near m w < cap → Value z (near p w) (near m w)
value z p m w r W P M = subst (λ (x : Float). Value x (near p w) (near m w)) (sym r.is) (go r.sign r.same r.other)
  where
    a : ℕ
    a = r.num

    c : ℕ
    c = r.den

    at : (s : Bool) (n : ℕ) → a * one * w ≡ n * c → near n w < cap → HasValue (round binary32 s a c) s (near n w) one
    at s n e N =
        let f : near (a * one) c ≡ near n w = near_same (a * one) c n w r.den_pos W e in
        subst (λ (k : ℕ). HasValue (round binary32 s a c) s k one) f (round_value s a c (subst (λ (k : ℕ). k < cap) (sym f) N))

    go : (s : Bool) → a * one * w ≡ cond s m p * c → cond s p m ≡ 0 → Value (round binary32 s a c) (near p w) (near m w)
    go true e o = value_of (round binary32 true a c) true (near p w) (near m w) (at true m e M) (near_none p w W o)
    go false e o = value_of (round binary32 false a c) false (near p w) (near m w) (at false p e P) (near_none m w W o)

pub cap_pos : 0 < cap
cap_pos = limit_pos binary32

pub under : (z : Float) (p m w : ℕ) → Rounded z p m w → 0 < w → T (finite z) → (near p w < cap) × (near m w < cap)
under z p m w r W t = go r.sign r.same r.other (round_under r.sign r.num r.den (subst (λ (x : Float). T (finite x)) r.is t))
  where
    go : (s : Bool) → r.num * one * w ≡ cond s m p * r.den → cond s p m ≡ 0 → near (r.num * one) r.den < cap → (near p w < cap) × (near m w < cap)
    go true e o h = (
      subst (λ (x : ℕ). x < cap) (sym (near_none _ w W o)) cap_pos,
      subst (λ (x : ℕ). x < cap) (near_same (r.num * one) r.den m w r.den_pos W e) h,
    )
    go false e o h = (
      subst (λ (x : ℕ). x < cap) (near_same (r.num * one) r.den p w r.den_pos W e) h,
      subst (λ (x : ℕ). x < cap) (sym (near_none _ w W o)) cap_pos,
    )

-- ---- a value that binary32 holds is a whole number of units

pub whole : (s : Bool) (m : ℕ) (e : ℤ) → T (fits binary32 (fin s m e)) → m * up e * one ≡ mag (fin s m e) * down e
unfolding one
whole s m e t = (mag_exact s m e t).1

-- ---- sums

pub ordered : (a b c x y : ℕ) → 0 < c → a * one ≡ x * c → b * one ≡ y * c → a ≤ b → x ≤ y
ordered a b c x y C e f h = le_of_mul-le-mul_right (le_trans (le_of_eq (sym e)) (le_trans (mul-le-mul_right one h) (le_of_eq f))) C

-- what makes a `Rounded`, of a whole number of units
whole_of : (s : Bool) (a c p m n : ℕ) → 0 < c → a * one ≡ n * c → n ≡ cond s m p → cond s p m ≡ 0 → Rounded (round binary32 s a c) p m 1
whole_of s a c p m n C e f o =
    record { sign = s; num = a; den = c; is = refl; den_pos = C; same = mul-one (a * one) ∙ e ∙ ap (λ (x : ℕ). x * c) f; other = o }

sum_rounded : (s t : Bool) (a b c x y : ℕ) → 0 < c → a * one ≡ x * c → b * one ≡ y * c
    → Rounded (sum binary32 s a t b c) (cond s 0 x + cond t 0 y - (cond s x 0 + cond t y 0)) (cond s x 0 + cond t y 0 - (cond s 0 x + cond t 0 y)) 1
unfolding sum
sum_rounded false false a b c x y C e f =
    whole_of false (a + b) c (x + y - 0) (0 - (x + y)) (x + y) C (add-mul a b one ∙ cc (e, f) ∙ sym (add-mul x y c)) (omega arith) (omega arith)
sum_rounded true true a b c x y C e f =
    whole_of true (a + b) c (0 - (x + y)) (x + y - 0) (x + y) C (add-mul a b one ∙ cc (e, f) ∙ sym (add-mul x y c)) (omega arith) (omega arith)
sum_rounded false true a b c x y C e f = go (ltb a b) (ltb→lt a b) (nltb→le a b)
  where
    go : (d : Bool) → (T d → a < b) → (T (not d) → b ≤ a) → Rounded (cond d (round binary32 true (b - a) c) (round binary32 false (a - b) c)) (x + 0 - (0 + y)) (0 + y - (x + 0)) 1
    go true h k =
        let l = ordered a b c x y C e f (le_of_lt (h tt)) in
        whole_of true (b - a) c (x + 0 - (0 + y)) (0 + y - (x + 0)) (y - x) C (apart b a c y x one f e) (omega arith) (omega arith)
    go false h k =
        let l = ordered b a c y x C f e (k tt) in
        whole_of false (a - b) c (x + 0 - (0 + y)) (0 + y - (x + 0)) (x - y) C (apart a b c x y one e f) (omega arith) (omega arith)
sum_rounded true false a b c x y C e f = go (ltb a b) (ltb→lt a b) (nltb→le a b) (ltb b a) (nltb→le b a)
  where
    go : (d : Bool) → (T d → a < b) → (T (not d) → b ≤ a) → (g : Bool) → (T (not g) → a ≤ b)
        → Rounded (cond d (round binary32 false (b - a) c) (round binary32 g (a - b) c)) (0 + y - (x + 0)) (x + 0 - (0 + y)) 1
    go true h k g i =
        let l = ordered a b c x y C e f (le_of_lt (h tt)) in
        whole_of false (b - a) c (0 + y - (x + 0)) (x + 0 - (0 + y)) (y - x) C (apart b a c y x one f e) (omega arith) (omega arith)
    go false h k true i =
        let l = ordered b a c y x C f e (k tt) in
        whole_of true (a - b) c (0 + y - (x + 0)) (x + 0 - (0 + y)) (x - y) C (apart a b c x y one e f) (omega arith) (omega arith)
    go false h k false i =
        let l = ordered b a c y x C f e (k tt) in
        let n = ordered a b c x y C e f (i tt) in
        whole_of false (a - b) c (0 + y - (x + 0)) (x + 0 - (0 + y)) (x - y) C (apart a b c x y one e f) (omega arith) (omega arith)

pub add_rounded : (x y : Float) → Number x → Number y
    → Rounded (add binary32 x y) (plus x + plus y - (minus x + minus y)) (minus x + minus y - (plus x + plus y)) 1
unfolding add plus minus
add_rounded nan y X Y = absurd X.is_finite
add_rounded (inf s) y X Y = absurd X.is_finite
add_rounded (fin s m e) nan X Y = absurd Y.is_finite
add_rounded (fin s m e) (inf t) X Y = absurd Y.is_finite
add_rounded (fin s m e) (fin t n d) X Y =
    sum_rounded s t (m * up e * down d) (n * up d * down e) (down e * down d) (mag (fin s m e)) (mag (fin t n d)) (mul-pos (down_pos e) (down_pos d))
    (mul_right_comm (m * up e) (down d) one ∙ ap (λ (k : ℕ). k * down d) (whole s m e X.holds) ∙ mul_assoc (mag (fin s m e)) (down e) (down d))
    (mul_right_comm (n * up d) (down e) one ∙ ap (λ (k : ℕ). k * down e) (whole t n d Y.holds) ∙ mul_assoc (mag (fin t n d)) (down d) (down e) ∙ ap (λ (k : ℕ). mag (fin t n d) * k) (mul_comm (down d) (down e)))

-- ---- products

-- what makes a `Rounded`, of a fraction n / w
part_of : (s : Bool) (a c p m n w : ℕ) → 0 < c → a * one * w ≡ n * c → n ≡ cond s m p → cond s p m ≡ 0 → Rounded (round binary32 s a c) p m w
part_of s a c p m n w C e f o =
    record { sign = s; num = a; den = c; is = refl; den_pos = C; same = e ∙ ap (λ (x : ℕ). x * c) f; other = o }

pub mul_rounded : (x y : Float) → Number x → Number y
    → Rounded (mul binary32 x y) (plus x * plus y + minus x * minus y) (plus x * minus y + minus x * plus y) one
unfolding mul plus minus
mul_rounded nan y X Y = absurd X.is_finite
mul_rounded (inf s) y X Y = absurd X.is_finite
mul_rounded (fin s m e) nan X Y = absurd Y.is_finite
mul_rounded (fin s m e) (inf t) X Y = absurd Y.is_finite
mul_rounded (fin s m e) (fin t n d) X Y = go s t
  where
    x : ℕ
    x = mag (fin s m e)

    y : ℕ
    y = mag (fin t n d)

    sizes : m * up e * (n * up d) * one * one ≡ x * y * (down e * down d)
    sizes =
        mul_assoc (m * up e * (n * up d)) one one
        ∙ mul-mul-mul_comm (m * up e) (n * up d) one one
        ∙ cc (whole s m e X.holds, whole t n d Y.holds)
        ∙ mul-mul-mul_comm x (down e) y (down d)

    go : (a b : Bool) → Rounded (round binary32 (unlike a b) (m * up e * (n * up d)) (down e * down d)) (cond a 0 x * cond b 0 y + cond a x 0 * cond b y 0) (cond a 0 x * cond b y 0 + cond a x 0 * cond b 0 y) one
    go false false = part_of false _ (down e * down d) (x * y + 0 * 0) (x * 0 + 0 * y) (x * y) one (mul-pos (down_pos e) (down_pos d)) sizes (omega arith) (omega arith)
    go false true = part_of true _ (down e * down d) (x * 0 + 0 * y) (x * y + 0 * 0) (x * y) one (mul-pos (down_pos e) (down_pos d)) sizes (omega arith) (omega arith)
    go true false = part_of true _ (down e * down d) (0 * y + x * 0) (0 * 0 + x * y) (x * y) one (mul-pos (down_pos e) (down_pos d)) sizes (omega arith) (omega arith)
    go true true = part_of false _ (down e * down d) (0 * 0 + x * y) (0 * y + x * 0) (x * y) one (mul-pos (down_pos e) (down_pos d)) sizes (omega arith) (omega arith)

-- ---- quotients, by a y above zero

pub div_rounded : (x y : Float) → Number x → Number y → 0 < plus y
    → Rounded (div binary32 x y) (plus x * one) (minus x * one) (plus y)
unfolding div plus minus
div_rounded nan y X Y o = absurd X.is_finite
div_rounded (inf s) y X Y o = absurd X.is_finite
div_rounded (fin s m e) nan X Y o = absurd Y.is_finite
div_rounded (fin s m e) (inf t) X Y o = absurd Y.is_finite
div_rounded (fin s m e) (fin true n d) X Y o = absurd (lt_irrefl 0 o)
div_rounded (fin s m e) (fin false n d) X Y o =
    subst (λ (z : Float). Rounded z (cond s 0 x * one) (cond s x 0 * one) y) (sym (cond_no (eqb n 0) _ _ (not_T (eqb n 0) (λ k. none (eqb→eq n 0 k))))) (go s)
  where
    x : ℕ
    x = mag (fin s m e)

    y : ℕ
    y = mag (fin false n d)

    above : 0 < n * up d
    above = lt_of_not-le (λ (k : n * up d ≤ 0). lt_irrefl 0 (lt_of_lt_of_le o (le_of_mul-le-mul_right (le_trans (le_of_eq (sym (whole false n d Y.holds))) (le_trans (mul-le-mul_right one k) (le_of_eq (zero-mul one ∙ sym (zero-mul (down d)))))) (down_pos d))))

    none : n ≡ 0 → ⊥
    none k = lt_irrefl 0 (subst (λ (z : ℕ). 0 < z) (ap (λ (z : ℕ). z * up d) k ∙ zero-mul (up d)) above)

    sizes : m * up e * down d * one * y ≡ x * one * (n * up d * down e)
    sizes =
        ap (λ (k : ℕ). k * y) (mul_right_comm (m * up e) (down d) one ∙ ap (λ (k : ℕ). k * down d) (whole s m e X.holds))
        ∙ mul_assoc (x * down e) (down d) y
        ∙ ap (λ (k : ℕ). x * down e * k) (mul_comm (down d) y ∙ sym (whole false n d Y.holds) ∙ mul_comm (n * up d) one)
        ∙ mul-mul-mul_comm x (down e) one (n * up d)
        ∙ ap (λ (k : ℕ). x * one * k) (mul_comm (down e) (n * up d))

    go : (a : Bool) → Rounded (round binary32 (unlike a false) (m * up e * down d) (n * up d * down e)) (cond a 0 x * one) (cond a x 0 * one) y
    go true = part_of true _ (n * up d * down e) (0 * one) (x * one) (x * one) y (mul-pos above (down_pos e)) sizes refl (zero-mul one)
    go false = part_of false _ (n * up d * down e) (x * one) (0 * one) (x * one) y (mul-pos above (down_pos e)) sizes refl (zero-mul one)
