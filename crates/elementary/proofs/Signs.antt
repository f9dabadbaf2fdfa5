-- What the tests x < 0 and x == 0 say of x: which of the logic's values it can be. The negative of a value (`neg_at`), and a test of its size by two tests without (`abs_below`). Assumes nothing.
use Rattle.std.proofs.Common.{◌≡◌, ℕ, zero, suc, ◌+◌, ◌*◌, ◌<◌, ◌≤◌, Bool, true, false, cond, ◌&&◌, eqb, ltb, ℤ, refl, true≢false, zero-lt-suc, mul-pos, arith, ap, ltb-false, ltb-true, lt-ltb, eq-eqb, eqb-true}
use mathlib.Core.Bool.{false≢true, not}
use lib.Ieee.{Float, nan, inf, fin, up, down, neg, lt, eq, of_bits}
use lib.Ieee.Exact.{HasValue}
use lib.Ieee.Fits.{up_pos, down_pos}
use Rattle.elementary.specs.Notation.{lit}
use Rattle.std.specs.Float as Float
use Rattle.elementary.specs.Sign.{abs}

pub data Below : Float → Type 0 where
  inf_below : Below (inf true)
  fin_below : (m : ℕ) (e : ℤ) → Below (fin true (suc m) e)

pub data Level : Float → Type 0 where
  level_at : (s : Bool) (e : ℤ) → Level (fin s 0 e)

-- neither
pub data Other : Float → Type 0 where
  nan_other : Other nan
  inf_other : Other (inf false)
  fin_other : (m : ℕ) (e : ℤ) → Other (fin false (suc m) e)

-- the library's value with its sign cleared
pub abs_is : (x : Float) → Float.float_with_sign false x ≡ abs x
unfolding Float.float_with_sign abs
abs_is nan = refl
abs_is (inf s) = refl
abs_is (fin s m e) = refl

-- the negative: the same size, and the other sign
pub neg_at : (x : Float) (s : Bool) (a c : ℕ) → HasValue x s a c → HasValue (neg x) (not s) a c
unfolding neg
neg_at nan s a c v = absurd v
neg_at (inf t) s a c v = absurd v
neg_at (fin t m e) s a c v = (ap not v.0, v.1)

some : (m : ℕ) (e : ℤ) → 0 < suc m * up e
some m e = mul-pos (zero-lt-suc m) (up_pos e)

first : (p q : Bool) → (p && q) ≡ true → p ≡ true
first true q h = refl
first false q h = h

both : (p q : Bool) → p ≡ true → q ≡ true → (p && q) ≡ false → ⊥
both true true a b h = true≢false h
both true false a b h = false≢true b
both false q a b h = false≢true a

pub below : (x : Float) → lt x (lit 0) ≡ true → Below x
unfolding lt of_bits
below nan h = absurd (false≢true h)
below (inf true) h = inf_below
below (inf false) h = absurd (false≢true h)
below (fin true zero e) h = let l : 0 < 0 * up e * 1 + 0 * down e = ltb-true 0 (0 * up e * 1 + 0 * down e) h in absurd (omega arith)
below (fin true (suc m) e) h = fin_below m e
below (fin false m e) h = let l : m * up e * 1 < 0 * down e = ltb-true (m * up e * 1) (0 * down e) h in absurd (omega arith)

pub level : (x : Float) → eq x (lit 0) ≡ true → Level x
unfolding eq of_bits
level nan h = absurd (false≢true h)
level (inf s) h = absurd (false≢true h)
level (fin s zero e) h = level_at s e
level (fin s (suc m) e) h =
    let a : suc m * up e * 1 ≡ 0 * down e = eqb-true (suc m * up e * 1) (0 * down e) (first (eqb (suc m * up e * 1) (0 * down e)) _ h) in
    absurd (omega (arith, some m e))

pub other : (x : Float) → lt x (lit 0) ≡ false → eq x (lit 0) ≡ false → Other x
unfolding lt eq of_bits
other nan h k = nan_other
other (inf true) h k = absurd (true≢false h)
other (inf false) h k = inf_other
other (fin true m e) h k =
    let l : m * up e * 1 + 0 * down e ≤ 0 = ltb-false 0 (m * up e * 1 + 0 * down e) h in
    absurd (both (eqb (m * up e * 1) (0 * down e)) (eqb (m * up e * 1) 0) (eq-eqb (m * up e * 1) (0 * down e) (omega arith)) (eq-eqb (m * up e * 1) 0 (omega arith)) k)
other (fin false zero e) h k = absurd (both (eqb (0 * up e * 1) (0 * down e)) true (eq-eqb (0 * up e * 1) (0 * down e) (omega arith)) refl k)
other (fin false (suc m) e) h k = fin_other m e

-- ---- the size of x against a number above zero: x lies between the number and its negative

own : (b : Bool) → b ≡ cond b true false
own true = refl
own false = refl

positive_sum : (b a : ℕ) → 0 < b → 0 < b + a
positive_sum b a h = omega arith

add_positive : (a b : ℕ) → 0 < b → 0 < a + b
add_positive a b h = omega arith

pub abs_below : (x : Float) (m : ℕ) (e : ℤ) → 0 < m → lt (abs x) (fin false m e) ≡ cond (lt x (fin false m e)) (lt (neg (fin false m e)) x) false
unfolding abs lt neg
abs_below nan m e h = refl
abs_below (inf true) m e h = refl
abs_below (inf false) m e h = refl
abs_below (fin false n k) m e h =
    let a = n * up k * down e in
    let b = m * up e * down k in
    rw (lt-ltb 0 (b + a) (positive_sum b a (mul-pos (mul-pos h (up_pos e)) (down_pos k)))) (own (ltb a b))
abs_below (fin true n k) m e h =
    let a = n * up k * down e in
    let b = m * up e * down k in
    rw (lt-ltb 0 (a + b) (add_positive a b (mul-pos (mul-pos h (up_pos e)) (down_pos k)))) refl
