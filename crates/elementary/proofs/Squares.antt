-- The nearest whole number to a root, by squares: `nearest_root n` is the one g with 4 * n between the squares of 2 * g - 1 and 2 * g + 1 (`nearest_between`, `between_unique`).
-- The digits are set while the square stays below 4 * n, and at the end it would not with one more (`digits_end`). Assumes nothing.
use Rattle.std.proofs.Common.{◌≡◌, ℕ, zero, suc, ◌+◌, ◌-◌, ◌*◌, ◌^◌, ◌<◌, ◌≤◌, Bool, true, false, cond, not, T, ltb, sym, refl, ap, ◌∙◌, subst, le_trans, lt_of_lt_of_le, lt_irrefl, add-mul, mul-le-mul, mul-add, arith, lit<, ltb→lt, nltb→le}
use native.Mathlib.Nat.{mul-mul-mul_comm, pow-succ'}
use Rattle.elementary.specs.Root.{digits, nearest_root}

-- g - 1/2 is below the root of n, and g + 1/2 above it
abbrev pub Between : ℕ → ℕ → Type 0
Between n g = ((2 * g - 1) * (2 * g - 1) < 4 * n) × (4 * n < (2 * g + 1) * (2 * g + 1))

-- ---- (2 * a + 1) ^ 2 with the square a * a, so that `omega` sees that one and plain numbers

odd_square : (a : ℕ) → (2 * a + 1) * (2 * a + 1) ≡ 4 * (a * a) + 4 * a + 1
odd_square a =
    let p : (2 * a + 1) * (2 * a + 1) ≡ 2 * a * (2 * a + 1) + 1 * (2 * a + 1) = add-mul (2 * a) 1 (2 * a + 1) in
    let q : 2 * a * (2 * a + 1) ≡ 2 * a * (2 * a) + 2 * a * 1 = mul-add (2 * a) (2 * a) 1 in
    omega (arith, mul-mul-mul_comm 2 a 2 a)

-- ---- one such g at most

between_le : (n g h : ℕ) → Between n g → Between n h → h < g → ⊥
between_le n g h b c l =
    let s : 2 * h + 1 ≤ 2 * g - 1 = omega arith in
    lt_irrefl (4 * n) (lt_of_lt_of_le c.1 (le_trans (mul-le-mul s s) (omega (arith, b.0))))

pub between_unique : (n g h : ℕ) → Between n g → Between n h → g ≡ h
between_unique n g h b c =
    let p : h < g → ⊥ = between_le n g h b c in
    let q : g < h → ⊥ = between_le n h g c b in
    omega arith

-- ---- the digits

pub turn : (d n g u : ℕ) {b : Bool} → 0 < d → u ≡ 2 ^ (d - 1) → ltb ((2 * (g + u) - 1) * (2 * (g + u) - 1)) (4 * n) ≡ b → digits d n g ≡ digits (d - 1) n (cond b (g + u) g)
unfolding digits
turn d n g u {b} l e t =
    let s : d ≡ suc (d - 1) = omega arith in
    ap (λ (k : ℕ). digits k n g) s
    ∙ ap (λ (v : ℕ). digits (d - 1) n (cond (ltb ((2 * (g + v) - 1) * (2 * (g + v) - 1)) (4 * n)) (g + v) g)) (sym e)
    ∙ ap (λ (c : Bool). digits (d - 1) n (cond c (g + u) g)) t

pub none : (n g : ℕ) → digits 0 n g ≡ g
unfolding digits
none n g = refl

pub digits_lt : (d n g : ℕ) → digits d n g < g + 2 ^ d
unfolding digits
digits_lt zero n g = omega arith
digits_lt (suc d) n g =
    go (ltb ((2 * (g + 2 ^ d) - 1) * (2 * (g + 2 ^ d) - 1)) (4 * n)) (digits_lt d n (g + 2 ^ d)) (digits_lt d n g) (pow-succ' 2 d)
  where
    go : (b : Bool) → digits d n (g + 2 ^ d) < g + 2 ^ d + 2 ^ d → digits d n g < g + 2 ^ d → 2 ^ suc d ≡ 2 * 2 ^ d → digits d n (cond b (g + 2 ^ d) g) < g + 2 ^ suc d
    go true p q e = omega arith
    go false p q e = omega arith

-- 4 * n at most (2 * (r + 1) - 1) ^ 2, and so below it, since one is even and the other odd
abbrev Ends : ℕ → ℕ → Type 0
Ends n r = ((2 * r - 1) * (2 * r - 1) < 4 * n) × (4 * n ≤ (2 * (r + 1) - 1) * (2 * (r + 1) - 1))

digits_end : (d n g : ℕ) → (2 * g - 1) * (2 * g - 1) < 4 * n → 4 * n ≤ (2 * (g + 2 ^ d) - 1) * (2 * (g + 2 ^ d) - 1) → Ends n (digits d n g)
unfolding digits
digits_end zero n g lo hi = (lo, hi)
digits_end (suc d) n g lo hi =
    let h = g + 2 ^ d in
    let e : g + 2 ^ suc d ≡ h + 2 ^ d = omega (arith, pow-succ' 2 d) in
    go (ltb ((2 * h - 1) * (2 * h - 1)) (4 * n))
    (λ t. digits_end d n h (ltb→lt ((2 * h - 1) * (2 * h - 1)) (4 * n) t) (subst (λ (z : ℕ). 4 * n ≤ (2 * z - 1) * (2 * z - 1)) e hi))
    (λ t. digits_end d n g lo (nltb→le ((2 * h - 1) * (2 * h - 1)) (4 * n) t))
  where
    go : (b : Bool) → (T b → Ends n (digits d n (g + 2 ^ d))) → (T (not b) → Ends n (digits d n g)) → Ends n (digits d n (cond b (g + 2 ^ d) g))
    go true p q = p tt
    go false p q = q tt

ends_between : (n r : ℕ) → Ends n r → Between n r
ends_between n r h =
    let s : 2 * (r + 1) - 1 ≡ 2 * r + 1 = omega arith in
    (h.0, omega (arith, subst (λ (z : ℕ). 4 * n ≤ z * z) s h.1, odd_square r))

-- ---- the nearest whole number to a root of 24 digits

pub nearest_lt : (n : ℕ) → nearest_root n < 2 ^ 24
nearest_lt n = digits_lt 24 n 0

pub nearest_between : (n : ℕ) → 0 < n → n + 2 ^ 24 ≤ 2 ^ 48 → Between n (nearest_root n)
nearest_between n P h = ends_between n (nearest_root n) (digits_end 24 n 0 (omega arith) (omega arith))

pub nearest_ge : (n : ℕ) → 2 ^ 46 ≤ n → n + 2 ^ 24 ≤ 2 ^ 48 → 2 ^ 23 ≤ nearest_root n
nearest_ge n l h =
    let g = nearest_root n in
    let c : g < 2 ^ 23 → ⊥ = λ s.
    let o : 2 * g + 1 ≤ 2 ^ 24 = omega arith in
    omega (arith, (nearest_between n (lt_of_lt_of_le (lit< tt) l) h).1, mul-le-mul o o) in
    omega arith

-- what the code tests: the squares of 2 * g - 1 and 2 * g + 1 differ by 8 * g
certified : (n g : ℕ) → 4 * n < (2 * g + 1) * (2 * g + 1) → (2 * g + 1) * (2 * g + 1) < 4 * n + 8 * g → Between n g
certified n zero up dn = (omega arith, up)
certified n (suc h) up dn =
    let s : 2 * suc h - 1 ≡ 2 * h + 1 = omega arith in
    let e : 2 * suc h + 1 ≡ 2 * (h + 1) + 1 = omega arith in
    let q : (h + 1) * (h + 1) ≡ h * h + 2 * h + 1 = omega (arith, add-mul h 1 (h + 1), mul-add h h 1) in
    let lower : (2 * (h + 1) + 1) * (2 * (h + 1) + 1) < 4 * n + 8 * suc h = subst (λ (z : ℕ). z * z < 4 * n + 8 * suc h) e dn in
    (subst (λ (z : ℕ). z * z < 4 * n) (sym s) (omega (arith, odd_square h, odd_square (h + 1))), up)

pub certified_is : (n g : ℕ) → 0 < n → n + 2 ^ 24 ≤ 2 ^ 48 → 4 * n < (2 * g + 1) * (2 * g + 1) → (2 * g + 1) * (2 * g + 1) < 4 * n + 8 * g → g ≡ nearest_root n
certified_is n g P h up dn = between_unique n g (nearest_root n) (certified n g up dn) (nearest_between n P h)
