-- Rounding keeps the order, of values of either sign, zeros and infinities included (`rounded_mono`). The logic has it of values that are not negative;
-- a negative value rounds to the negative of what its size rounds to (`round_neg`), and negation turns the order around (`neg_anti`). Assumes nothing.
use Rattle.std.proofs.Common.{◌≡◌, ℕ, zero, suc, ◌+◌, ◌*◌, ◌^◌, ◌<◌, ◌≤◌, Bool, true, false, cond, not, ◌&&◌, ◌||◌, T, eqb, ltb, sym, refl, ap, ◌∙◌, subst, true≢false, zero-le, le_of_eq, le_of_lt, zero-mul, arith, eqb→eq, ltb→lt, nltb→le, pow_pos}
use native.Mathlib.Nat.{eq_of_mul-eq-mul_right}
use lib.Ieee.{Float, Format, nan, inf, fin, prec, emax, low, up, down, odd, units, round, neg, le}
use lib.Ieee.Fits.{down_pos, round_is, eq→eqb, and_i, and_l, and_r}
use lib.Ieee.Exact.{HasValue, round_exact}
use lib.Ieee.Order.{kept, drop, round_mono}
use Rattle.elementary.specs.Convert.{rounded}

-- ---- a rounded value, by its sign

odd_neg : (d q k l : ℕ) → odd d true q k l ≡ neg (odd d false q k l)
unfolding odd neg
odd_neg d zero k l = refl
odd_neg d (suc q) k l = refl

units_neg : (f : Format) (q k : ℕ) → units f true q k ≡ neg (units f false q k)
unfolding units neg
units_neg f q k = go (ltb (q * 2 ^ k) (2 ^ (low f + suc (emax f))))
  where
    go : (b : Bool) → cond b (odd (suc (prec f)) true q k (low f)) (inf true) ≡ neg (cond b (odd (suc (prec f)) false q k (low f)) (inf false))
    go true = odd_neg (suc (prec f)) q k (low f)
    go false = refl

pub round_neg : (f : Format) (a c : ℕ) → round f true a c ≡ neg (round f false a c)
round_neg f a c = round_is f true a c ∙ units_neg f (kept (prec f) (a * 2 ^ low f) c) (drop (prec f) (a * 2 ^ low f) c) ∙ ap neg (sym (round_is f false a c))

-- not negative, and no NaN
abbrev pub Plus : Float → Type 0
Plus nan = ⊥
Plus (inf s) = s ≡ false
Plus (fin s m e) = s ≡ false

pub round_plus : (f : Format) (a c : ℕ) → Plus (round f false a c)
unfolding units odd
round_plus f a c = subst Plus (sym (round_is f false a c)) (go (kept (prec f) (a * 2 ^ low f) c) (drop (prec f) (a * 2 ^ low f) c))
  where
    of_odd : (q k : ℕ) → Plus (odd (suc (prec f)) false q k (low f))
    of_odd zero k = refl
    of_odd (suc q) k = refl

    pick : (b : Bool) (q k : ℕ) → Plus (cond b (odd (suc (prec f)) false q k (low f)) (inf false))
    pick true q k = of_odd q k
    pick false q k = refl

    go : (q k : ℕ) → Plus (units f false q k)
    go q k = pick (ltb (q * 2 ^ k) (2 ^ (low f + suc (emax f)))) q k

-- ---- the order

-- a ≤ b, tested as a < b or what holds where they are equal
test : (a b : ℕ) (q : Bool) → a ≤ b → (a ≡ b → T q) → T (ltb a b || q)
test a b q h k = go (ltb a b) (nltb→le a b)
  where
    go : (p : Bool) → (T (not p) → b ≤ a) → T (p || q)
    go true l = tt
    go false l = k (omega (arith, l tt))

tested : (a b : ℕ) (q : Bool) → (T q → a ≡ b) → T (ltb a b || q) → a ≤ b
tested a b q e = go (ltb a b) (ltb→lt a b)
  where
    go : (p : Bool) → (T p → a < b) → T (p || q) → a ≤ b
    go true l t = le_of_lt (l tt)
    go false l t = le_of_eq (e t)

pub no_factor : (a u : ℕ) → 0 < u → a * u ≡ 0 → a ≡ 0
no_factor a u U h = eq_of_mul-eq-mul_right u U a 0 (h ∙ sym (zero-mul u))

-- both zero, of opposite signs
zeros : (a b : ℕ) → a ≡ 0 → b ≡ 0 → T (eqb a b && (false || eqb a 0))
zeros a b p q = and_i (eqb a b) (eqb a 0) (eq→eqb (p ∙ sym q)) (eq→eqb p)

-- negation turns the order around, among values that are not negative
pub neg_anti : (x y : Float) → Plus x → Plus y → T (le y x) → T (le (neg x) (neg y))
unfolding le neg
neg_anti nan y p q h = absurd p
neg_anti (inf true) y p q h = absurd (true≢false p)
neg_anti (inf false) nan p q h = absurd q
neg_anti (inf false) (inf true) p q h = absurd (true≢false q)
neg_anti (inf false) (inf false) p q h = tt
neg_anti (inf false) (fin t n d) p q h = tt
neg_anti (fin true m e) y p q h = absurd (true≢false p)
neg_anti (fin false m e) nan p q h = absurd q
neg_anti (fin false m e) (inf true) p q h = absurd (true≢false q)
neg_anti (fin false m e) (inf false) p q h = absurd h
neg_anti (fin false m e) (fin true n d) p q h = absurd (true≢false q)
neg_anti (fin false m e) (fin false n d) p q h =
    let a = m * up e * down d in
    let b = n * up d * down e in
    test b a (eqb a b && true) (tested b a (eqb b a && true) (λ t. eqb→eq b a (and_l (eqb b a) true t)) h) (λ i. and_i (eqb a b) true (eq→eqb (sym i)) tt)

-- a value that is not positive is at most one that is not negative
pub minus_le_plus : (x y : Float) → Plus x → Plus y → T (le (neg x) y)
unfolding le neg
minus_le_plus nan y p q = absurd p
minus_le_plus (inf true) y p q = absurd (true≢false p)
minus_le_plus (inf false) nan p q = absurd q
minus_le_plus (inf false) (inf true) p q = absurd (true≢false q)
minus_le_plus (inf false) (inf false) p q = tt
minus_le_plus (inf false) (fin t n d) p q = tt
minus_le_plus (fin s m e) nan p q = absurd q
minus_le_plus (fin s m e) (inf true) p q = absurd (true≢false q)
minus_le_plus (fin s m e) (inf false) p q = tt
minus_le_plus (fin true m e) (fin t n d) p q = absurd (true≢false p)
minus_le_plus (fin false m e) (fin true n d) p q = absurd (true≢false q)
minus_le_plus (fin false m e) (fin false n d) p q =
    let a = m * up e * down d in
    let b = n * up d * down e in
    test 0 (a + b) (eqb a b && (false || eqb a 0)) zero-le (λ i. zeros a b (omega arith) (omega arith))

-- two zeros, the second with its sign turned
pub zero_le_zero : (x y : Float) (c d : ℕ) → 0 < c → 0 < d → HasValue x false 0 c → HasValue y false 0 d → T (le x (neg y))
unfolding le neg
zero_le_zero nan y c d C D v w = absurd v
zero_le_zero (inf s) y c d C D v w = absurd v
zero_le_zero (fin s m e) nan c d C D v w = absurd w
zero_le_zero (fin s m e) (inf t) c d C D v w = absurd w
zero_le_zero (fin true m e) (fin t n g) c d C D v w = absurd (true≢false v.0)
zero_le_zero (fin false m e) (fin true n g) c d C D v w = absurd (true≢false w.0)
zero_le_zero (fin false m e) (fin false n g) c d C D v w =
    zeros (m * up e * down g) (n * up g * down e) (none (m * up e) c (down g) (down e) C v.1) (none (n * up g) d (down e) (down g) D w.1)
  where
    none : (a k u l : ℕ) → 0 < k → a * k ≡ 0 * l → a * u ≡ 0
    none a k u l K h = ap (λ (z : ℕ). z * u) (no_factor a k K (h ∙ zero-mul l)) ∙ zero-mul u

-- ---- rounding

plus_le_inf : (x : Float) → Plus x → T (le x (inf false))
unfolding le
plus_le_inf nan p = absurd p
plus_le_inf (inf true) p = tt
plus_le_inf (inf false) p = tt
plus_le_inf (fin s m e) p = tt

above_inf : (f : Format) (s : Bool) (a c : ℕ) → T (le (inf true) (round f s a c))
unfolding neg
above_inf f true a c = rw round_neg (neg_anti (inf false) (round f false a c) refl (round_plus f a c) (plus_le_inf (round f false a c) (round_plus f a c)))
above_inf f false a c = minus_le_plus (inf false) (round f false a c) refl (round_plus f a c)

below_inf : (f : Format) (s : Bool) (a c : ℕ) → T (le (round f s a c) (inf false))
below_inf f true a c = rw round_neg (minus_le_plus (round f false a c) (inf false) (round_plus f a c) refl)
below_inf f false a c = plus_le_inf (round f false a c) (round_plus f a c)

module _ (f : Format) (a c b d : ℕ) (C : 0 < c) (D : 0 < d) where
  both_minus : b * c ≤ a * d → T (le (round f true a c) (round f true b d))
  both_minus h = rw (round_neg f a c, round_neg f b d) (neg_anti (round f false a c) (round f false b d) (round_plus f a c) (round_plus f b d) (round_mono f b d a c D C h))

  minus_plus : T (le (round f true a c) (round f false b d))
  minus_plus = rw (round_neg f a c) (minus_le_plus (round f false a c) (round f false b d) (round_plus f a c) (round_plus f b d))

  plus_minus : a ≡ 0 → b ≡ 0 → T (le (round f false a c) (round f true b d))
  plus_minus p q = rw (round_neg f b d) (zero_le_zero (round f false a c) (round f false b d) c d C D (zero_value a c p C) (zero_value b d q D))
    where
      zero_value : (n k : ℕ) → n ≡ 0 → 0 < k → HasValue (round f false n k) false 0 k
      zero_value n k e K = subst (λ (z : ℕ). HasValue (round f false z k) false 0 k) (sym e) (round_exact f false 0 k 0 0 K (pow_pos (prec f)) (pow_pos (low f + suc (emax f))) (simp zero-mul))

pub rounded_mono : (f : Format) (x y : Float) → T (le x y) → T (le (rounded f x) (rounded f y))
unfolding le rounded
rounded_mono f nan y h = absurd h
rounded_mono f (inf s) nan h = absurd h
rounded_mono f (inf s) (inf t) h = h
rounded_mono f (inf true) (fin t n d) h = above_inf f t (n * up d) (down d)
rounded_mono f (inf false) (fin t n d) h = absurd h
rounded_mono f (fin s m e) nan h = absurd h
rounded_mono f (fin s m e) (inf true) h = absurd h
rounded_mono f (fin s m e) (inf false) h = below_inf f s (m * up e) (down e)
rounded_mono f (fin false m e) (fin false n d) h =
    let a = m * up e * down d in
    let b = n * up d * down e in
    round_mono f (m * up e) (down e) (n * up d) (down d) (down_pos e) (down_pos d) (tested a b (eqb a b && true) (λ t. eqb→eq a b (and_l (eqb a b) true t)) h)
rounded_mono f (fin true m e) (fin true n d) h =
    let a = m * up e * down d in
    let b = n * up d * down e in
    both_minus f (m * up e) (down e) (n * up d) (down d) (down_pos e) (down_pos d) (tested b a (eqb a b && true) (λ t. sym (eqb→eq a b (and_l (eqb a b) true t))) h)
rounded_mono f (fin true m e) (fin false n d) h = minus_plus f (m * up e) (down e) (n * up d) (down d) (down_pos e) (down_pos d)
rounded_mono f (fin false m e) (fin true n d) h =
    let a = m * up e * down d in
    let b = n * up d * down e in
    let z : a ≡ 0 = eqb→eq a 0 (and_r (eqb a b) (eqb a 0) h) in
    let w : b ≡ 0 = sym (eqb→eq a b (and_l (eqb a b) (eqb a 0) h)) ∙ z in
    plus_minus f (m * up e) (down e) (n * up d) (down d) (down_pos e) (down_pos d) (no_factor (m * up e) (down d) (down_pos d) z) (no_factor (n * up d) (down e) (down_pos e) w)
