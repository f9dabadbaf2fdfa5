-- The root of IEEE 754, which is one instruction of the machine (`lib.Ieee.sqrt`), is `sqrt` of specs/Root (`instruction`): the logic works out twice the root of a much larger number, cut off to half a place, and rounds that.
-- It lies strictly between 2 * g - 1 and 2 * g + 1 in units of half of the result's last place, as the exact root does, so it rounds to g. Assumes nothing.
use Rattle.std.proofs.Common.{◌≡◌, ℕ, zero, suc, ◌+◌, ◌-◌, ◌*◌, ◌/◌, ◌^◌, ◌<◌, ◌≤◌, Bool, true, false, cond, T, eqb, ℤ, pos, sym, refl, ap, ◌∙◌, subst, le_refl, le_trans, lt_of_lt_of_le, lt_irrefl, mul-le-mul, mul-le-mul_right, mul-lt-mul_of_pos_right, mul-pos, mul-add, zero-mul, zero-lt-suc, mul_comm, mul_left_comm, mul_right_comm, mul-div_cancel, arith, eqb→eq, lt→ltb, pow_pos, pow-add}
use native.Mathlib.Nat.{mul-mul-mul_comm, mul-sub, pow-succ'}
use lib.Ieee as Ieee
use lib.Ieee.{Float, nan, inf, fin, binary32, fits, up, down, size, root_below, root_twice, units, round}
use lib.Ieee.Root.{whole_part}
use lib.Ieee.Fits.{down_pos}
use lib.Ieee.Exact.{HasValue}
use lib.Ieee.Nearest.{closest}
use lib.Ieee.Positive.{positive}
use Rattle.elementary.specs.Units.{Normalised}
use Rattle.elementary.specs.Root as Root
use Rattle.elementary.specs.Root.{nearest_root, root_of}
use Rattle.elementary.proofs.Lengths.{shifted_le, shifted_gt, two_pows}
use Rattle.elementary.proofs.Rounding.{closest_is, rounded}
use Rattle.elementary.proofs.Squares.{Between, nearest_between}
use Rattle.elementary.proofs.Scaled.{power, scaled, over, under, some, argument, root_is}
use Rattle.elementary.proofs.Nearest.{sqrt_units, in_units}
use Rattle.elementary.proofs.Values.{unique}

-- ---- twice a root, by squares around it

less : (a b n : ℕ) → a * a ≤ n → n < b * b → a < b
less a b n h l =
    let no : b ≤ a → ⊥ = λ g. lt_irrefl n (lt_of_lt_of_le l (le_trans (mul-le-mul g g) h)) in
    omega arith

half_bit : (b : Bool) → cond b 0 1 ≤ 1
half_bit true = omega arith
half_bit false = omega arith

twice_ge : (n a : ℕ) → a * a ≤ n → 2 * a ≤ root_twice n
unfolding root_twice
twice_ge n a h = let l : a < root_below (size n) n + 1 = less a _ n h (whole_part n).1 in omega arith

twice_gt : (n a : ℕ) → a * a < n → 2 * a < root_twice n
unfolding root_twice
twice_gt n a h = go (eqb (s * s) n) (eqb→eq (s * s) n)
  where
    s : ℕ
    s = root_below (size n) n

    l : a < s + 1
    l = less a (s + 1) n (omega arith) (whole_part n).1

    go : (b : Bool) → (T b → s * s ≡ n) → 2 * a < 2 * s + cond b 0 1
    go true e = let k : a < s = less a s (a * a) (le_refl (a * a)) (subst (λ (z : ℕ). a * a < z) (sym (e tt)) h) in omega arith
    go false e = omega (arith, l)

twice_lt : (n b : ℕ) → n < b * b → root_twice n < 2 * b
unfolding root_twice
twice_lt n b h =
    let s = root_below (size n) n in
    let l : s < b = less s b n (whole_part n).0 h in
    omega (arith, half_bit (eqb (s * s) n))

between_halves : (g v r : ℕ) → 0 < v → 2 * ((2 * g - 1) * v) < r → r < 2 * ((2 * g + 1) * v) → closest r (2 * (2 * v)) ≡ g
between_halves g v r V below above =
    let e : g * (2 * (2 * v)) ≡ 2 * (v * (2 * g)) = simp (mul_comm, mul_left_comm) in
    closest_is r (2 * v) g (omega arith) (omega (arith, mul_comm (2 * g - 1) v, mul-sub v (2 * g) 1)) (omega (arith, mul_comm (2 * g + 1) v, mul-add v (2 * g) 1))

-- ---- x is n * 2 ^ (2 * k) / 2 ^ 298, and the logic takes the root of n * (2 * v) ^ 2

squared : (a v : ℕ) → a * v * (a * v) ≡ a * a * (v * v)
squared a v = mul-mul-mul_comm a v a v

doubled : (j s z : ℕ) → suc (j + s) ≡ z → 2 * (2 ^ j * 2 ^ s) ≡ 2 ^ z
doubled j s z e = ap (λ (y : ℕ). 2 * y) (sym (pow-add 2 j s)) ∙ sym (pow-succ' 2 (j + s)) ∙ ap (λ (y : ℕ). 2 ^ y) e

module _ (n g k : ℕ) (low : 2 ^ 46 ≤ n) (high : n < 2 ^ 48) (b : Between n g) where
  abbrev s : ℕ
  s = 2121 + k

  abbrev v : ℕ
  v = 2 ^ s

  abbrev r : ℕ
  r = root_twice (n * 4 * (v * v))

  V : 0 < v * v
  V = mul-pos (pow_pos s) (pow_pos s)

  -- r has 2147 + k digits
  at_least : 2 ^ (2146 + k) ≤ r
  at_least =
      let h : 2 ^ 24 * 2 ^ 24 ≤ n * 4 = omega arith in
      rw (← doubled 24 s (2146 + k) (omega arith)) (twice_ge (n * 4 * (v * v)) (2 ^ 24 * v) (rw (squared (2 ^ 24) v) (mul-le-mul_right (v * v) h)))

  less_than : r < 2 ^ (2147 + k)
  less_than =
      let h : n * 4 < 2 ^ 25 * 2 ^ 25 = omega arith in
      rw (← doubled 25 s (2147 + k) (omega arith)) (twice_lt (n * 4 * (v * v)) (2 ^ 25 * v) (rw (squared (2 ^ 25) v) (mul-lt-mul_of_pos_right h V)))

  nearest_is : closest r (2 ^ (2123 + k)) ≡ g
  nearest_is =
      let l : (2 * g - 1) * (2 * g - 1) < n * 4 = omega (arith, b.0) in
      let u : n * 4 < (2 * g + 1) * (2 * g + 1) = omega (arith, b.1) in
      let below : 2 * ((2 * g - 1) * v) < r = twice_gt (n * 4 * (v * v)) ((2 * g - 1) * v) (rw (squared (2 * g - 1) v) (mul-lt-mul_of_pos_right l V)) in
      let above : r < 2 * ((2 * g + 1) * v) = twice_lt (n * 4 * (v * v)) ((2 * g + 1) * v) (rw (squared (2 * g + 1) v) (mul-lt-mul_of_pos_right u V)) in
      ap (closest r) (sym (doubled 1 s (2123 + k) (omega arith))) ∙ between_halves g v r (pow_pos s) below above

  -- 24 of the digits are kept, and k of those dropped are units
  rounds : round binary32 false r (2 ^ 2272) ≡ units binary32 false g k
  rounds =
      let lo : 23 + k < size (r * 2 ^ 149 / 2 ^ 2272) = shifted_gt r 149 2272 (2146 + k) (23 + k) at_least (omega arith) in
      let hi : size (r * 2 ^ 149 / 2 ^ 2272) ≤ 24 + k = shifted_le r 149 2272 (2147 + k) (24 + k) less_than (omega arith) in
      let z : size (r * 2 ^ 149 / 2 ^ 2272) - 24 ≡ k = omega arith in
      let w : 149 + (2123 + k) ≡ 2272 + k = omega arith in
      rounded false r r 2272 (2123 + k) k (two_pows r 149 (2123 + k) ∙ ap (λ (j : ℕ). r * 2 ^ j) w ∙ ap (λ (j : ℕ). r * j) (pow-add 2 2272 k)) z
      ∙ ap (λ (j : ℕ). units binary32 false j k) nearest_is

-- x is n * 2 ^ (2 * k) / 2 ^ 298, which is a whole number of the root's places
exact : (y d n k : ℕ) → 0 < d → y * 2 ^ 298 ≡ n * 2 ^ (2 * k) * d → y * 2 ^ 4542 / d ≡ n * 4 * (2 ^ (2121 + k) * 2 ^ (2121 + k))
exact y d n k D e =
    let s = 2121 + k in
    let w : 2 * k + 4244 ≡ 2 + (s + s) = omega arith in
    let all : y * 2 ^ 4542 ≡ n * 4 * (2 ^ s * 2 ^ s) * d =
    sym (two_pows y 298 4244)
    ∙ ap (λ (z : ℕ). z * 2 ^ 4244) e
    ∙ mul_right_comm (n * 2 ^ (2 * k)) d (2 ^ 4244)
    ∙ ap (λ (z : ℕ). z * d) (two_pows n (2 * k) 4244 ∙ ap (λ (z : ℕ). n * 2 ^ z) w ∙ sym (two_pows n 2 (s + s)) ∙ ap (λ (z : ℕ). n * 4 * z) (pow-add 2 s s)) in
    ap (λ (z : ℕ). z / d) all ∙ mul-div_cancel _ D

-- ---- `sqrt`

of_units : (m : ℕ) (e : ℤ) (a q length : ℕ) → Normalised a q length → HasValue (fin false (suc m) e) false a (2 ^ 149) → Ieee.sqrt binary32 (fin false (suc m) e) ≡ root_of a
unfolding Ieee.sqrt
of_units m e a q length N v =
    let n = scaled q length in
    let k = power length in
    let high = under q length N.low N.high in
    ap (λ (z : ℕ). round binary32 false (root_twice z) (2 ^ 2272)) (exact (suc m * up e) (down e) n k (down_pos e) (argument a q length N (fin false (suc m) e) v).1)
    ∙ rounds n (nearest_root n) k (over q length N.low N.high) (omega arith) (nearest_between n (some q length N.low N.high) high)
    ∙ sym (root_is a q length N)

pub instruction : (x : Float) → T (fits binary32 x) → Ieee.sqrt binary32 x ≡ Root.sqrt x
unfolding Ieee.sqrt Root.sqrt
instruction nan F = refl
instruction (inf true) F = refl
instruction (inf false) F = refl
instruction (fin s zero e) F = unique binary32 (fin s 0 (pos 0)) (fin s 0 e) s 0 (unfold fits in tt) F (refl, refl) (refl, simp zero-mul)
instruction (fin true (suc m) e) F = refl
instruction (fin false (suc m) e) F =
    let x = fin false (suc m) e in
    let p : T (positive x) = lt→ltb 0 (suc m) (zero-lt-suc m) in
    let w = in_units x F p in
    of_units m e w.0 w.1 w.2 w.3 w.4 ∙ sqrt_units x w.0 p w.4
