-- Squaring in binary64, each square rounded, over whole numbers: what a lower bound, an upper bound and the distance of two neighbours become, by whole-number recursions that compute (`high_n`; `gap_n`, which has the lower bound in it).
-- Bounds are in parts of 2 ^ -16 (`W`), distances in parts of 2 ^ -40 (`Z`). The squares of p and p' differ by (p - p') (p + p'), which is at least twice their distance times the lower bound; the part that a whole-number division drops and the rounding cost at most one part each. Assumes nothing.
use mathlib.Core.Path.{◌≡◌, refl, ap}
use mathlib.Core.Bool.{false}
use Prim.Native.Nat.{ℕ, zero, suc, ◌+◌, ◌-◌, ◌*◌, ◌/◌, ◌^◌, ◌≤◌, ◌<◌}
use native.Mathlib.Nat.{le_trans, le_of_eq, mul-le-mul, mul-le-mul_right, le_of_mul-le-mul_right, div-mul-le_self, zero-mul}
use native.Mathlib.Omega.{arith}
use lib.Dec.{lit<, lit≤}
use lib.Ieee.{Float, binary64}
use Rattle.elementary.specs.Notation.{◌⊠◌}
use Rattle.elementary.specs.Exponential.{squared}
use Rattle.units.proofs.Near.{near_to, near_to_mono}
use Rattle.units.proofs.Sizes.{unit, unit_pos, InUnits, mul_at}
use Rattle.starting_nodes.proofs.Horner.{U, err, most, under, off}

unfoldable pub W : ℕ
W = 2 ^ 1058

unfoldable pub Z : ℕ
Z = 2 ^ 1034

pub W_is : U ≡ 65536 * W
unfolding unit W
W_is = refl

pub err_Z : Z ≡ 8192 * err
unfolding err Z
err_Z = refl

unfoldable pub square : ℕ → ℕ
square p = near_to 53 (p * p) U

unfoldable pub squared_n : ℕ → ℕ → ℕ
squared_n zero p = p
squared_n (suc n) p = squared_n n (square p)

-- ---- the floats

in_unit : (p : ℕ) → p ≤ U → p * p ≤ U * U
in_unit p h = mul-le-mul h h

pub square_top : (p : ℕ) → p ≤ U → square p ≤ U
unfolding square
square_top p h = most (p * p) U (unit_pos binary64) (in_unit p h)

pub squared_at : (n p : ℕ) (r : Float) → p ≤ U → InUnits binary64 r false p → InUnits binary64 (squared n r) false (squared_n n p)
unfolding squared squared_n square
squared_at zero p r h v = v
squared_at (suc n) p r h v = squared_at n (near_to 53 (p * p) U) (r ⊠ r) (square_top p h) (mul_at binary64 r r false false p p v v (under (p * p) U (unit_pos binary64) (in_unit p h)))

pub squared_top : (n p : ℕ) → p ≤ U → squared_n n p ≤ U
unfolding squared_n
squared_top zero p h = h
squared_top (suc n) p h = squared_top n (square p) (square_top p h)

-- ---- one square, with r its rounded value and u, e, w, v any numbers that stand so

-- a lower bound
low_step : (r p l u e w : ℕ) → 0 < u → u ≡ 65536 * w → e ≤ w → p * p ≤ r * u + e * u → l * w ≤ p → (l * l / 65536 - 1) * w ≤ r
low_step r p l u e w H i f a b = go (l * l / 65536) (div-mul-le_self (l * l) 65536)
  where
    go : (c : ℕ) → c * 65536 ≤ l * l → (c - 1) * w ≤ r
    go zero h = le_trans (le_of_eq (zero-mul w)) (omega arith)
    go (suc c) h =
        let g : l * w * (l * w) ≤ p * p = mul-le-mul b b in
        let k : suc c * 65536 * (w * w) ≤ l * l * (w * w) = mul-le-mul_right (w * w) h in
        let j : suc c * w * u ≡ suc c * w * (65536 * w) = ap (λ (x : ℕ). suc c * w * x) i in
        let m : suc c * w ≤ r + e = le_of_mul-le-mul_right {m = suc c * w} {n = r + e} {k = u} (omega arith) H in
        let y : suc c - 1 ≡ c = omega arith in
        le_trans (le_of_eq (ap (λ (x : ℕ). x * w) y)) (omega arith)

-- an upper bound
high_step : (r p l u e w : ℕ) → 0 < u → u ≡ 65536 * w → e ≤ w → r * u ≤ p * p + e * u → p ≤ l * w → r ≤ (l * l / 65536 + 2) * w
high_step r p l u e w H i f a b = go (l * l / 65536) (up (l * l))
  where
    up : (x : ℕ) → x ≤ (x / 65536 + 1) * 65536
    up x = omega arith

    go : (c : ℕ) → l * l ≤ (c + 1) * 65536 → r ≤ (c + 2) * w
    go c h =
        let g : p * p ≤ l * w * (l * w) = mul-le-mul b b in
        let k : l * l * (w * w) ≤ (c + 1) * 65536 * (w * w) = mul-le-mul_right (w * w) h in
        let j : (c + 1) * w * u ≡ (c + 1) * w * (65536 * w) = ap (λ (x : ℕ). (c + 1) * w * x) i in
        let m : r ≤ (c + 1) * w + e = le_of_mul-le-mul_right {m = r} {n = (c + 1) * w + e} {k = u} (omega arith) H in
        omega arith

-- two neighbours
gap_step : (r r' p p' g l u e w v : ℕ) → 0 < u → u ≡ 65536 * w → 2 * e ≤ v → p * p ≤ r * u + e * u → r' * u ≤ p' * p' + e * u → r' ≤ r → l * w ≤ p' → p' + g * v ≤ p
    → r' + (2 * g * l / 65536 - 1) * v ≤ r
gap_step r r' p p' g l u e w v H i f a a' o b d = go (2 * g * l / 65536) (div-mul-le_self (2 * g * l) 65536)
  where
    go : (c : ℕ) → c * 65536 ≤ 2 * g * l → r' + (c - 1) * v ≤ r
    go zero h = let q : (0 - 1) * v ≡ 0 = zero-mul v in omega arith
    go (suc c) h =
        let x : (p' + g * v) * (p' + g * v) ≤ p * p = mul-le-mul d d in
        let y : l * w * (g * v) ≤ p' * (g * v) = mul-le-mul_right (g * v) b in
        let k : suc c * 65536 * (w * v) ≤ 2 * g * l * (w * v) = mul-le-mul_right (w * v) h in
        let j : suc c * v * u ≡ suc c * v * (65536 * w) = ap (λ (x : ℕ). suc c * v * x) i in
        let m : r' + suc c * v ≤ r + 2 * e = le_of_mul-le-mul_right {m = r' + suc c * v} {n = r + 2 * e} {k = u} (omega arith) H in
        let q : suc c - 1 ≡ c = omega arith in
        le_trans (le_of_eq (ap (λ (x : ℕ). r' + x * v) q)) (omega arith)

-- ---- n squares

unfoldable pub high_n : ℕ → ℕ → ℕ
high_n zero l = l
high_n (suc n) l = high_n n (l * l / 65536 + 2)

unfoldable pub gap_n : ℕ → ℕ → ℕ → ℕ
gap_n zero g l = g
gap_n (suc n) g l = gap_n n (2 * g * l / 65536 - 1) (l * l / 65536 - 1)

e_w : err ≤ W
unfolding err W
e_w = lit≤ tt

e_v : 2 * err ≤ Z
unfolding err Z
e_v = lit≤ tt

square_off_low : (p : ℕ) → p ≤ U → p * p ≤ square p * U + err * U
unfolding square
square_off_low p h = (off (p * p) U (unit_pos binary64) (in_unit p h)).1

square_off_high : (p : ℕ) → p ≤ U → square p * U ≤ p * p + err * U
unfolding square
square_off_high p h = (off (p * p) U (unit_pos binary64) (in_unit p h)).0

square_mono : (p' p : ℕ) → p' ≤ p → square p' ≤ square p
unfolding square
square_mono p' p h = near_to_mono 53 (p' * p') U (p * p) U (lit< tt) (unit_pos binary64) (unit_pos binary64) (mul-le-mul_right U (mul-le-mul h h))

pub squared_high : (n p l : ℕ) → p ≤ U → p ≤ l * W → squared_n n p ≤ high_n n l * W
unfolding squared_n high_n
squared_high zero p l t h = h
squared_high (suc n) p l t h = squared_high n (square p) (l * l / 65536 + 2) (square_top p t) (high_step (square p) p l U err W (unit_pos binary64) W_is e_w (square_off_high p t) h)

pub squared_apart : (n p' p g l : ℕ) → p ≤ U → p' ≤ U → l * W ≤ p' → p' + g * Z ≤ p → squared_n n p' + gap_n n g l * Z ≤ squared_n n p
unfolding squared_n gap_n
squared_apart zero p' p g l t t' b d = d
squared_apart (suc n) p' p g l t t' b d =
    let o : p' ≤ p = le_trans (omega arith) d in
    squared_apart n (square p') (square p) (2 * g * l / 65536 - 1) (l * l / 65536 - 1) (square_top p t) (square_top p' t')
    (low_step (square p') p' l U err W (unit_pos binary64) W_is e_w (square_off_low p' t') b)
    (gap_step (square p) (square p') p p' g l U err W Z (unit_pos binary64) W_is e_v (square_off_low p t) (square_off_high p' t') (square_mono p' p o) b d)
