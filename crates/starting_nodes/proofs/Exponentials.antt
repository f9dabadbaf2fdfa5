-- E (`exp`) at an x from -8 - 1/256 up to 0, by its size m in units of 2 ^ -149, of which `o` are 1 and `z` are 2 ^ -40: `exp_n m` is E's size (`exp_at`), and at most 1 (`exp_top`).
-- Where two arguments are 0.00195 apart, which is 2,148,000,000 parts of 2 ^ -40, their E are at least 470,000 such parts apart (`exp_apart`): a 256th of the distance, 28/30 of that after the series, is 7,831,000; the series is at least 63,486 / 65,536;
-- eight squarings make of these 601,139 (`gap_is`, by computation), of which rounding to binary32 takes at most 65,536 from each side. And from 2 on E is at most a quarter (`exp_quarter`): there the series is at most 65,060 / 65,536, which squared eight times is 10,200 / 65,536 (`high_is`). Assumes nothing.
use mathlib.Core.Path.{◌≡◌, refl, sym, ap, ◌∙◌, subst}
use mathlib.Core.Bool.{Bool, true, false, not, ◌&&◌, ◌||◌, false≢true}
use Prim.Native.Nat.{ℕ, ◌+◌, ◌-◌, ◌*◌, ◌^◌, ◌≤◌, ◌<◌}
use native.Mathlib.Nat.{le_trans, le_of_eq, le_refl, lt_of_le_of_lt, mul-one, mul_comm, mul_assoc, mul_right_comm, mul-le-mul_right, mul-lt-mul_of_pos_right, le_of_mul-le-mul_right}
use native.Mathlib.Omega.{arith}
use borrow.Author.Tests.{le-ltb, ne_eqb}
use lib.Dec.{T, ltb, eqb, lit<, lit≤}
use lib.Pow.{pow_pos}
use lib.Ieee.{Float, nan, inf, fin, binary32, binary64, up, down, neg, lt, le, eq, is_nan, of_bits}
use lib.Ieee.Bits.{cond_no}
use lib.Ieee.Fits.{down_pos}
use lib.Ieee.Exact.{HasValue}
use Rattle.elementary.specs.Notation.{◌⧄◌, lit, one64}
use Rattle.elementary.specs.Convert.{narrow}
use Rattle.elementary.specs.Exponential.{exp, series, c256, terms}
use Rattle.units.proofs.Near.{near_to, near_to_off, OffBy}
use Rattle.units.proofs.Sizes.{unit, unit_pos, limit, InUnits, within, div_at, narrow_at}
use Rattle.starting_nodes.proofs.Steps.{Small, Neighbours}
use Rattle.starting_nodes.proofs.Horner.{U, err, err_is, most, under, off, one64_at, terms_n, terms_at, terms_top, terms_from, terms_apart}
use Rattle.starting_nodes.proofs.Squarings.{W, Z, W_is, err_Z, squared_n, squared_at, squared_top, squared_high, squared_apart, high_n, gap_n}

-- ---- binary32's units

abbrev pub o : ℕ
o = unit binary32

unfoldable pub z : ℕ
z = 2 ^ 109

pub z_is : o ≡ 1099511627776 * z
unfolding unit z
z_is = refl

pub z_pos : 0 < z
unfolding z
z_pos = pow_pos 109

-- binary64's in one of binary32's
unfoldable pub S : ℕ
S = 2 ^ 925

pub S_is : o * S ≡ U
unfolding unit S
S_is = refl

S_z : z * S ≡ Z
unfolding z Z S
S_z = refl

pub o_under : o < limit binary32
unfolding unit limit
o_under = lit< tt

pub most32 : (n c : ℕ) → 0 < c → n ≤ o * c → near_to 24 n c ≤ o
unfolding unit
most32 n c C h = within binary32 n c 1 149 C (lit< tt) h

-- a fraction below 2
pub off32 : (n c : ℕ) → 0 < c → n < 2 * o * c → OffBy (near_to 24 n c) n c (65536 * z)
unfolding unit z
off32 n c C h = near_to_off 24 125 n c C h

-- ---- the size of E

unfoldable pub arg_n : ℕ → ℕ
arg_n m = near_to 53 (m * S) 256

unfoldable pub power_n : ℕ → ℕ
power_n m = squared_n 8 (terms_n 10 (arg_n m) U)

unfoldable pub exp_n : ℕ → ℕ
exp_n m = near_to 24 (power_n m * o) U

-- ---- the floats

wider : (x : Float) (s : Bool) (a : ℕ) → InUnits binary32 x s a → InUnits binary64 x s (a * S)
wider nan s a v = absurd v
wider (inf t) s a v = absurd v
wider (fin t m e) s a v = (v.0, ap (λ (k : ℕ). m * up e * k) (sym S_is) ∙ sym (mul_assoc (m * up e) o S) ∙ ap (λ (k : ℕ). k * S) v.1 ∙ mul_right_comm a (down e) S)

c256_at : HasValue c256 false 256 1
unfolding of_bits
c256_at = (refl, refl)

arg_in : (m : ℕ) → m ≤ 9 * o → m * S ≤ U * 256
arg_in m h =
    let a : m * S ≤ 9 * o * S = mul-le-mul_right S h in
    omega (arith, S_is)

arg_top : (m : ℕ) → m ≤ 9 * o → arg_n m ≤ U
unfolding arg_n
arg_top m h = most (m * S) 256 (lit< tt) (arg_in m h)

arg_at : (x : Float) (m : ℕ) → InUnits binary32 x true m → m ≤ 9 * o → InUnits binary64 (x ⧄ c256) true (arg_n m)
unfolding arg_n
arg_at x m v h =
    let a : near_to 53 (m * S * 1) 256 ≡ near_to 53 (m * S) 256 = ap (λ (n : ℕ). near_to 53 n 256) (mul-one (m * S)) in
    subst (λ (n : ℕ). InUnits binary64 (x ⧄ c256) true n) a
    (div_at binary64 x c256 true (m * S) 256 1 (lit< tt) (pow_pos 0) (wider x true m v) c256_at (subst (λ (n : ℕ). n < limit binary64) (sym a) (under (m * S) 256 (lit< tt) (arg_in m h))))

power_top : (m : ℕ) → m ≤ 9 * o → power_n m ≤ U
unfolding power_n
power_top m h = squared_top 8 (terms_n 10 (arg_n m) U) (terms_top 10 (arg_n m) U (arg_top m h) (le_refl U))

series_at : (x : Float) (m : ℕ) → InUnits binary32 x true m → m ≤ 9 * o → InUnits binary64 (series x) false (power_n m)
unfolding series power_n
series_at x m v h =
    squared_at 8 (terms_n 10 (arg_n m) U) (terms 10 (x ⧄ c256) one64) (terms_top 10 (arg_n m) U (arg_top m h) (le_refl U))
    (terms_at 10 (arg_n m) U (x ⧄ c256) one64 (lit≤ tt) (arg_top m h) (le_refl U) (arg_at x m v h) one64_at)

exp_in : (m : ℕ) → m ≤ 9 * o → power_n m * o ≤ o * U
exp_in m h = le_trans (mul-le-mul_right o (power_top m h)) (le_of_eq (mul_comm U o))

pub exp_top : (m : ℕ) → m ≤ 9 * o → exp_n m ≤ o
unfolding exp_n
exp_top m h = most32 (power_n m * o) U (unit_pos binary64) (exp_in m h)

-- the three tests of E fail
tests : (x : Float) (m : ℕ) → InUnits binary32 x true m → m ≤ 9 * o → T (not (is_nan x)) × T (not (lt x (neg (lit 0x42d0_0000)))) × T (not (le (lit 0x42b2_0000) x))
unfolding is_nan lt le eq neg of_bits
tests nan m v h = absurd v
tests (inf t) m v h = absurd v
tests (fin false n e) m v h = absurd (false≢true v.0)
tests (fin true n e) m v h = (tt, low, high)
  where
    small : n * up e ≤ 9 * down e
    small =
        let a : m * down e ≤ 9 * o * down e = mul-le-mul_right (down e) h in
        le_of_mul-le-mul_right {m = n * up e} {n = 9 * down e} {k = o} (omega (arith, v.1)) (unit_pos binary32)

    low : T (not (ltb (13 * 8 * down e) (n * up e * 1)))
    low = rw (le-ltb (13 * 8 * down e) (n * up e * 1) (omega (arith, small))) tt

    high : T (not (false || (eqb (89 * 1 * down e) (n * up e * 1) && (false || eqb (89 * 1 * down e) 0))))
    high = rw (ne_eqb (89 * 1 * down e) (n * up e * 1) (λ (k : 89 * 1 * down e ≡ n * up e * 1). omega (arith, small, down_pos e))) tt

exp_is : (x : Float) (m : ℕ) → InUnits binary32 x true m → m ≤ 9 * o → exp x ≡ narrow (series x)
unfolding exp
exp_is x m v h =
    let t = tests x m v h in
    cond_no (is_nan x) _ _ t.0 ∙ cond_no (lt x (neg (lit 0x42d0_0000))) _ _ t.1 ∙ cond_no (le (lit 0x42b2_0000) x) _ _ t.2

pub exp_at : (x : Float) (m : ℕ) → InUnits binary32 x true m → m ≤ 9 * o → InUnits binary32 (exp x) false (exp_n m)
unfolding exp_n
exp_at x m v h =
    subst (λ (y : Float). InUnits binary32 y false (near_to 24 (power_n m * o) U)) (sym (exp_is x m v h))
    (narrow_at binary32 binary64 (series x) false (power_n m) (series_at x m v h) (lt_of_le_of_lt (exp_top m h) o_under))

-- ---- two arguments

arg_off : (m : ℕ) → m ≤ 9 * o → (arg_n m * 256 ≤ m * S + err * 256) × (m * S ≤ arg_n m * 256 + err * 256)
unfolding arg_n
arg_off m h = off (m * S) 256 (lit< tt) (arg_in m h)

-- m up to 8 + 1/256
pub record Inside (m : ℕ) : Type 0 where
  pub high : 256 * m ≤ 2049 * o

pub inside_9 : {m : ℕ} → Inside m → m ≤ 9 * o
inside_9 {m} i = omega (arith, i.high)

arg_limit : (m : ℕ) → Inside m → 65536 * arg_n m ≤ 2049 * U + 65536 * err
arg_limit m i =
    let a = arg_off m (inside_9 i) in
    let b : 256 * m * S ≤ 2049 * o * S = mul-le-mul_right S i.high in
    omega (arith, S_is)

arg_small : (m : ℕ) → Inside m → Small U err (arg_n m)
arg_small m i = let a = arg_limit m i in record { some = unit_pos binary64; fine = omega (arith, err_is); low = omega (arith, err_is) }

-- the series: from 1 down, at a distance d
start : (d : ℕ) → Neighbours U d U U
start d = record { up = omega arith; down = omega arith; top = le_refl U; top' = le_refl U; large = omega arith }

sum_low : (m : ℕ) → Inside m → 63486 * W ≤ terms_n 10 (arg_n m) U
sum_low m i =
    let a = arg_limit m i in
    let b = terms_from 9 (arg_n m) U (arg_top m (inside_9 i)) (le_refl U) in
    omega (arith, err_is, W_is)

sum_apart : (y y' : ℕ) → y ≤ y' → y ≤ U → y' ≤ U → err * 1024 + y ≤ y' → Small U err y' → 30 * terms_n 10 y' U + 28 * y' ≤ 30 * terms_n 10 y U + 28 * y + 178 * err
sum_apart y y' h t t' f m =
    let a = terms_apart 9 y y' U U (y' - y) (lit≤ tt) m (omega arith) (omega arith) t t' (start (y' - y)) in
    omega arith

-- from the exact power to the rounded one
exp_off : (m : ℕ) → m ≤ 9 * o → (exp_n m * U ≤ power_n m * o + 65536 * z * U) × (power_n m * o ≤ exp_n m * U + 65536 * z * U)
unfolding exp_n
exp_off m h = off32 (power_n m * o) U (unit_pos binary64) (lt_of_le_of_lt (exp_in m h) (mul-lt-mul_of_pos_right (omega (arith, unit_pos binary32)) (unit_pos binary64)))

gap_is : gap_n 8 7831000 63486 ≡ 601139
unfolding gap_n
gap_is = refl

power_apart : (m m' : ℕ) → Inside m → Inside m' → m + 2148000000 * z ≤ m' → power_n m' + 601139 * Z ≤ power_n m
unfolding power_n
power_apart m m' i i' h =
    let a = arg_off m (inside_9 i) in
    let a' = arg_off m' (inside_9 i') in
    let b : (m + 2148000000 * z) * S ≤ m' * S = mul-le-mul_right S h in
    let y = arg_n m in
    let y' = arg_n m' in
    let c : 256 * y + 2148000000 * Z ≤ 256 * y' + 512 * err = omega (arith, S_z) in
    let d = sum_apart y y' (omega (arith, err_Z)) (arg_top m (inside_9 i)) (arg_top m' (inside_9 i')) (omega (arith, err_Z)) (arg_small m' i') in
    let g : terms_n 10 y' U + 7831000 * Z ≤ terms_n 10 y U = omega (arith, err_Z) in
    subst (λ (k : ℕ). squared_n 8 (terms_n 10 y' U) + k * Z ≤ squared_n 8 (terms_n 10 y U)) gap_is
    (squared_apart 8 (terms_n 10 y' U) (terms_n 10 y U) 7831000 63486 (terms_top 10 y U (arg_top m (inside_9 i)) (le_refl U)) (terms_top 10 y' U (arg_top m' (inside_9 i')) (le_refl U)) (sum_low m' i') g)

pub exp_apart : (m m' : ℕ) → Inside m → Inside m' → m + 2148000000 * z ≤ m' → exp_n m' + 470000 * z ≤ exp_n m
exp_apart m m' i i' h =
    let a = exp_off m (inside_9 i) in
    let a' = exp_off m' (inside_9 i') in
    let b : (power_n m' + 601139 * Z) * o ≤ power_n m * o = mul-le-mul_right o (power_apart m m' i i' h) in
    let c : Z * o ≡ z * U = ap (λ (k : ℕ). k * o) (sym S_z) ∙ mul_assoc z S o ∙ ap (λ (k : ℕ). z * k) (mul_comm S o ∙ S_is) in
    le_of_mul-le-mul_right {m = exp_n m' + 470000 * z} {n = exp_n m} {k = U} (omega arith) (unit_pos binary64)

-- ---- from 2 on

high_is : high_n 8 65060 ≡ 10200
unfolding high_n
high_is = refl

power_quarter : (m : ℕ) → Inside m → 2 * o ≤ m → power_n m ≤ 10200 * W
unfolding power_n
power_quarter m i h =
    let a = arg_off m (inside_9 i) in
    let b : 2 * o * S ≤ m * S = mul-le-mul_right S h in
    let y = arg_n m in
    let c : 2 * U ≤ 256 * y + 256 * err = omega (arith, S_is) in
    let t = arg_top m (inside_9 i) in
    let d = sum_apart 0 y (omega arith) (omega arith) t (omega (arith, err_is)) (arg_small m i) in
    let e = terms_top 10 0 U (omega arith) (le_refl U) in
    let g : terms_n 10 y U ≤ 65060 * W = omega (arith, err_is, W_is) in
    subst (λ (k : ℕ). squared_n 8 (terms_n 10 y U) ≤ k * W) high_is (squared_high 8 (terms_n 10 y U) 65060 (terms_top 10 y U t (le_refl U)) g)

pub exp_quarter : (m : ℕ) → Inside m → 2 * o ≤ m → 4 * exp_n m ≤ o
exp_quarter m i h =
    let a = exp_off m (inside_9 i) in
    let b : power_n m * o ≤ 10200 * W * o = mul-le-mul_right o (power_quarter m i h) in
    let c : 65536 * W * o ≡ U * o = ap (λ (k : ℕ). k * o) (sym W_is) in
    let d : o * U ≡ 1099511627776 * z * U = ap (λ (k : ℕ). k * U) z_is in
    le_of_mul-le-mul_right {m = 4 * exp_n m} {n = o} {k = U} (omega arith) (unit_pos binary64)
