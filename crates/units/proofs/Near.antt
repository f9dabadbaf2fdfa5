-- What rounding to p digits does, over natural numbers: `near_to p n c` is the fraction n / c, rounded; and to the 24 digits of binary32, `near n c`, where n / c is a number of units.
-- It keeps the order (`near_to_mono`): either two fractions drop as many digits, and then the kept numbers are in order, or a power of two lies between the results.
-- What has p digits and zeros after them loses only zeros (`near_to_fixes`). A fraction below 2 ^ (p + k + 1) moves by at most 2 ^ k (`near_to_off`), and a whole number n by at most half of the last digit kept, which is n / 2 ^ 24 at most (`near_error`).
-- Nothing here is about floats. Assumes nothing.
use mathlib.Core.Path.{◌≡◌, refl, sym, ap, ◌∙◌, subst}
use mathlib.Core.Bool.{not}
use mathlib.Core.Logic.{inl, inr}
use Prim.Native.Nat.{ℕ, zero, suc, ◌+◌, ◌-◌, ◌*◌, ◌/◌, ◌%◌, ◌^◌, ◌≤◌, ◌<◌, zero-le, compare, Ordering}
use native.Mathlib.Nat.{le_trans, le_of_eq, le_antisymm, lt_of_le_of_lt, eq-or-lt_of_le, zero-mul, mul-one, one-mul, mul_assoc, mul-le-mul_right, mul-le-mul_left, mul-pos, le-div_iff_mul-le, div-lt_iff_lt-mul, div-div-eq-div-mul, div-one, mod-one, mod-lt, div-add-mod'}
use native.Mathlib.Omega.{arith}
use lib.Dec.{T, lit<, is_le, compare_is_eq, eqb, leb→le, nleb→lt, eqb→eq, eqb_refl}
use lib.Arith.{lt_of_le-ne}
use lib.Pow.{pow-add, pow_pos, pow_mono, shl_lt}
use lib.Ieee.{size, nearest}
use lib.Ieee.Digits.{size-lt, size-le, size_reaches, back}
use lib.Ieee.Fits.{kept-lt, nearest-le}
use lib.Ieee.Nearest.{closest, closest_mono, closest_same, nearest-ge, div_mono}
use lib.Ieee.Order.{drop, kept}

unfoldable pub near_to : ℕ → ℕ → ℕ → ℕ
near_to p n c = kept p n c * 2 ^ drop p n c

-- ---- the order, with the text of `lib.Ieee.Order`, which keeps this law to itself

size_mono : (a b : ℕ) → a ≤ b → size a ≤ size b
size_mono a b h = size-le a (size b) (lt_of_le_of_lt h (size-lt b))

same_drop : (k a b c d : ℕ) → 0 < b → 0 < d → a * d ≤ c * b → closest a (b * 2 ^ k) * 2 ^ k ≤ closest c (d * 2 ^ k) * 2 ^ k
same_drop k a b c d B D h =
    mul-le-mul_right (2 ^ k)
    (closest_mono a (b * 2 ^ k) c (d * 2 ^ k) (mul-pos B (pow_pos k)) (mul-pos D (pow_pos k))
    (le_trans (le_of_eq (sym (mul_assoc a d (2 ^ k)))) (le_trans (mul-le-mul_right (2 ^ k) h) (le_of_eq (mul_assoc c b (2 ^ k))))))

kept_le : (p n c : ℕ) → kept p n c ≤ 2 ^ p
kept_le p n c =
    let k = drop p n c in
    let u = c * 2 ^ k in
    le_trans (nearest-le (n / u) (compare (n % u * 2) u)) (subst (λ (x : ℕ). x < 2 ^ p) (div-div-eq-div-mul n c (2 ^ k)) (kept-lt p (n / c)))

all_in_use : (z p : ℕ) → 0 < p → 0 < z - p → p - 1 + (z - p) < z
all_in_use z p P h = omega arith

-- where digits are dropped, the kept number has at least p digits
kept_ge : (p n c : ℕ) → 0 < p → 0 < drop p n c → 2 ^ (p - 1) ≤ kept p n c
kept_ge p n c P K =
    let k = drop p n c in
    let u = c * 2 ^ k in
    let w = n / c in
    let a : 2 ^ (p - 1) * 2 ^ k ≤ w = le_trans (le_of_eq (sym (pow-add 2 (p - 1) k))) (size_reaches w (p - 1 + k) (all_in_use (size w) p P K)) in
    le_trans (subst (λ (x : ℕ). 2 ^ (p - 1) ≤ x) (div-div-eq-div-mul n c (2 ^ k)) ((le-div_iff_mul-le (pow_pos k)).1 a)) (nearest-ge (n / u) (compare (n % u * 2) u))

fewer : (x y p : ℕ) → x ≤ y → x - p ≤ y - p
fewer x y p h = omega arith

room : (p j k : ℕ) → 0 < p → j < k → p + j ≤ p - 1 + k
room p j k P h = omega arith

pub near_to_mono : (p a b c d : ℕ) → 0 < p → 0 < b → 0 < d → a * d ≤ c * b → near_to p a b ≤ near_to p c d
unfolding near_to
near_to_mono p a b c d P B D h =
    let j = drop p a b in
    let k = drop p c d in
    elim (eq-or-lt_of_le (fewer (size (a / b)) (size (c / d)) p (size_mono (a / b) (c / d) (div_mono a b c d B D h)))) [
      | inl e ↦ subst (λ (x : ℕ). closest a (b * 2 ^ x) * 2 ^ x ≤ kept p c d * 2 ^ k) (sym e) (same_drop k a b c d B D h)
      | inr l ↦
          le_trans (mul-le-mul_right (2 ^ j) (kept_le p a b))
          (le_trans (le_of_eq (sym (pow-add 2 p j)))
          (le_trans (pow_mono (room p j k P l))
          (le_trans (le_of_eq (pow-add 2 (p - 1) k)) (mul-le-mul_right (2 ^ k) (kept_ge p c d P (lt_of_le_of_lt zero-le l))))))
    ]

-- equal fractions round alike
pub near_to_same : (p a b c d : ℕ) → 0 < p → 0 < b → 0 < d → a * d ≡ c * b → near_to p a b ≡ near_to p c d
near_to_same p a b c d P B D e = le_antisymm (near_to_mono p a b c d P B D (le_of_eq e)) (near_to_mono p c d a b P D B (le_of_eq (sym e)))

-- ---- what p digits hold

closest_whole : (r : ℕ) → closest r 1 ≡ r
closest_whole r = simp (div-one, mod-one)

spare : (z p l : ℕ) → z ≤ p + l → z - p ≤ l
spare z p l h = omega arith

fixes : (p n q j : ℕ) → q < 2 ^ p → n ≡ q * 2 ^ j → near_to p n 1 ≡ n
unfolding near_to
fixes p n q j small e =
    let w : n / 1 ≡ n = div-one n in
    let k = drop p n 1 in
    let l : k ≤ j = spare (size (n / 1)) p j (size-le (n / 1) (p + j) (subst (λ (x : ℕ). x < 2 ^ (p + j)) (sym (w ∙ e)) (shl_lt p j small))) in
    let r = q * 2 ^ (j - k) in
    let f : r * 2 ^ k ≡ n = mul_assoc q (2 ^ (j - k)) (2 ^ k) ∙ ap (λ (x : ℕ). q * x) (sym (pow-add 2 (j - k) k) ∙ ap (λ (x : ℕ). 2 ^ x) (back j k l)) ∙ sym e in
    let c : closest n (1 * 2 ^ k) ≡ r = closest_same n (1 * 2 ^ k) r 1 (mul-pos (pow_pos 0) (pow_pos k)) (pow_pos 0) (mul-one n ∙ sym f ∙ ap (λ (x : ℕ). r * x) (sym (one-mul (2 ^ k)))) ∙ closest_whole r in
    ap (λ (x : ℕ). x * 2 ^ k) c ∙ f

pub near_to_fixes : (p q j : ℕ) → q < 2 ^ p → near_to p (q * 2 ^ j) 1 ≡ q * 2 ^ j
near_to_fixes p q j small = fixes p (q * 2 ^ j) q j small refl

-- ---- the error

abbrev Cmp : Ordering → ℕ → ℕ → Type 0
Cmp Ordering.lt a b = a < b
Cmp Ordering.eq a b = a ≡ b
Cmp Ordering.gt a b = b < a

cmp : (a b : ℕ) → Cmp (compare a b) a b
cmp a b = go (compare a b) (leb→le a b) (nleb→lt a b) (eqb→eq a b) (λ (e : a ≡ b). subst (λ (x : ℕ). T (eqb a x)) e (eqb_refl a))
  where
    go : (o : Ordering) → (T (is_le o) → a ≤ b) → (T (not (is_le o)) → b < a) → (T (compare_is_eq o) → a ≡ b) → (a ≡ b → T (compare_is_eq o)) → Cmp o a b
    go Ordering.lt h k e n = lt_of_le-ne (h tt) n
    go Ordering.eq h k e n = e tt
    go Ordering.gt h k e n = k tt

-- v times u is n, up to half of u
abbrev Half : ℕ → ℕ → ℕ → Type 0
Half n u v = (v * u * 2 ≤ n * 2 + u) × (n * 2 ≤ v * u * 2 + u)

half : (n u q r : ℕ) (o : Ordering) → q * u + r ≡ n → r < u → Cmp o (r * 2) u → Half n u (nearest q o)
half n u q r Ordering.lt e l c = (omega arith, omega arith)
half n u q r Ordering.eq e l c =
    let a : q % 2 * u ≤ 1 * u = mul-le-mul_right u (below_two q) in
    (omega arith, omega arith)
  where
    below_two : (x : ℕ) → x % 2 ≤ 1
    below_two x = omega arith
half n u q r Ordering.gt e l c = (omega arith, omega arith)

closest_half : (n u : ℕ) → 0 < u → Half n u (closest n u)
closest_half n u U = half n u (n / u) (n % u) (compare (n % u * 2) u) (div-add-mod' n u) (mod-lt n U) (cmp (n % u * 2) u)

-- z / 1 is n / c, up to e
abbrev pub OffBy : ℕ → ℕ → ℕ → ℕ → Type 0
OffBy z n c e = (z * c ≤ n + e * c) × (n ≤ z * c + e * c)

-- of a fraction below 2 ^ (p + k + 1), by at most 2 ^ k
pub near_to_off : (p k n c : ℕ) → 0 < c → n < 2 ^ (p + suc k) * c → OffBy (near_to p n c) n c (2 ^ k)
unfolding near_to
near_to_off p k n c C h =
    let l : drop p n c ≤ suc k = spare (size (n / c)) p (suc k) (size-le (n / c) (p + suc k) ((div-lt_iff_lt-mul C).1 h)) in
    go (drop p n c) (pow_mono l)
  where
    go : (j : ℕ) → 2 ^ j ≤ 2 ^ suc k → OffBy (closest n (c * 2 ^ j) * 2 ^ j) n c (2 ^ k)
    go j l =
        let a = closest_half n (c * 2 ^ j) (mul-pos C (pow_pos j)) in
        let b : c * 2 ^ j ≤ c * 2 ^ suc k = mul-le-mul_left c l in
        let d : c * 2 ^ suc k ≡ c * (2 * 2 ^ k) = ap (λ (x : ℕ). c * x) twice in
        at (closest n (c * 2 ^ j)) (2 ^ j) (2 ^ k) a.0 a.1 (le_trans b (le_of_eq d))
      where
        twice : 2 ^ suc k ≡ 2 * 2 ^ k
        twice = omega arith

        at : (v u e : ℕ) → v * (c * u) * 2 ≤ n * 2 + c * u → n * 2 ≤ v * (c * u) * 2 + c * u → c * u ≤ c * (2 * e) → OffBy (v * u) n c e
        at v u e x y z = (omega arith, omega arith)

-- the same of a difference of whole numbers
pub rest_off : (q r u e : ℕ) → q ≤ u → OffBy r (u - q) 1 e → (r + q ≤ u + e) × (u ≤ r + q + e)
rest_off q r u e h o = (omega (arith, o.0), omega (arith, o.1))

-- ---- 24 digits

abbrev pub near : ℕ → ℕ → ℕ
near n c = near_to 24 n c

pub near_mono : (a b c d : ℕ) → 0 < b → 0 < d → a * d ≤ c * b → near a b ≤ near c d
near_mono a b c d = near_to_mono 24 a b c d (lit< tt)

-- equal fractions round alike
pub near_same : (a b c d : ℕ) → 0 < b → 0 < d → a * d ≡ c * b → near a b ≡ near c d
near_same a b c d = near_to_same 24 a b c d (lit< tt)

-- q * 2 ^ j units, with a q of at most 24 digits
pub near_fixes : (q j : ℕ) → q < 2 ^ 24 → near (q * 2 ^ j) 1 ≡ q * 2 ^ j
near_fixes = near_to_fixes 24

pub near_zero : (c : ℕ) → 0 < c → near 0 c ≡ 0
near_zero c C = near_same 0 c 0 1 C (pow_pos 0) (sym (zero-mul c)) ∙ near_fixes 0 0 (pow_pos 24)

pub near_none : (n c : ℕ) → 0 < c → n ≡ 0 → near n c ≡ 0
near_none n c C e = ap (λ (k : ℕ). near k c) e ∙ near_zero c C

-- v is n, up to n / 2 ^ 24
abbrev pub Error : ℕ → ℕ → Type 0
Error n v = (v * 16777216 ≤ n * 16777216 + n) × (n * 16777216 ≤ v * 16777216 + n)

dropped : (n k v : ℕ) → Half n (1 * 2 ^ k) v → 8388608 * 2 ^ k ≤ n → Error n (v * 2 ^ k)
dropped n k v h l = let e : 1 * 2 ^ k ≡ 2 ^ k = one-mul (2 ^ k) in go (2 ^ k) (1 * 2 ^ k) e h l
  where
    go : (u w : ℕ) → w ≡ u → Half n w v → 8388608 * u ≤ n → Error n (v * u)
    go u w e h l = let f : v * w ≡ v * u = ap (λ (x : ℕ). v * x) e in (omega arith, omega arith)

pub near_error : (n : ℕ) → Error n (near n 1)
unfolding near_to
near_error n = go (drop 24 n 1) refl
  where
    go : (k : ℕ) → size (n / 1) - 24 ≡ k → Error n (closest n (1 * 2 ^ k) * 2 ^ k)
    go zero e = let f : closest n 1 * 1 ≡ n = mul-one (closest n 1) ∙ closest_whole n in (omega arith, omega arith)
    go (suc k) e =
        dropped n (suc k) (closest n (1 * 2 ^ suc k)) (closest_half n (1 * 2 ^ suc k) (mul-pos (pow_pos 0) (pow_pos (suc k))))
        (le_trans (le_of_eq (sym (pow-add 2 23 (suc k)))) (le_trans (size_reaches (n / 1) (23 + suc k) (omega arith)) (le_of_eq (div-one n))))
