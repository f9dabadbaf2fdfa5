-- What the operations make of values, in units of the format's smallest value: `InUnits f x s a` says that x is finite, has the sign s, and is a units in size.
-- A product, a quotient and a difference is the exact one in units, rounded to the format's digits (`near_to`). Assumes nothing.
use mathlib.Core.Path.{◌≡◌, refl, sym, ap, ◌∙◌, subst}
use mathlib.Core.Bool.{Bool, true, false, not, cond, true≢false, false≢true}
use Prim.Native.Nat.{ℕ, suc, ◌+◌, ◌-◌, ◌*◌, ◌^◌, ◌≤◌, ◌<◌}
use native.Mathlib.Nat.{le_trans, le_of_eq, not-le_of_lt, mul-one, one-mul, mul_comm, mul_assoc, mul_right_comm, mul-mul-mul_comm, mul-pos, mul-sub, mul-le-mul_right, le_of_mul-le-mul_right}
use lib.Dec.{T, ltb, ltb→lt, nltb→le}
use lib.Pow.{pow_pos}
use lib.Ieee.{Float, Format, nan, inf, fin, prec, emax, low, up, down, unlike, round, sum, add, sub, mul, div, neg, lt}
use lib.Ieee.Fits.{down_pos, round_is, two, two-le_pos}
use lib.Ieee.Exact.{HasValue, units_val}
use lib.Ieee.Order.{drop, kept, transfer}
use Rattle.elementary.specs.Convert.{rounded}
use Rattle.elementary.proofs.Quotients as Quotients
use Rattle.elementary.proofs.Rounded.{rounded_at}
use Rattle.elementary.proofs.Signs.{neg_at}
use Rattle.units.proofs.Near.{near_to, near_to_mono, near_to_same, near_to_fixes}

-- 1 in units, and 2 ^ (emax + 1), from which on a value is an infinity
unfoldable pub unit : Format → ℕ
unit f = 2 ^ low f

unfoldable pub limit : Format → ℕ
limit f = 2 ^ (low f + suc (emax f))

pub unit_pos : (f : Format) → 0 < unit f
unfolding unit
unit_pos f = pow_pos (low f)

pub limit_pos : (f : Format) → 0 < limit f
unfolding limit
limit_pos f = pow_pos (low f + suc (emax f))

abbrev pub InUnits : Format → Float → Bool → ℕ → Type 0
InUnits f x s a = HasValue x s a (unit f)

prec_pos : (f : Format) → 0 < prec f
prec_pos f = two-le_pos (prec f) (two f)

-- ---- what `round` makes

pub round_units : (f : Format) (s : Bool) (a c : ℕ) → near_to (prec f) (a * unit f) c < limit f → InUnits f (round f s a c) s (near_to (prec f) (a * unit f) c)
unfolding near_to unit limit
round_units f s a c h =
    subst (λ (z : Float). HasValue z s (near_to (prec f) (a * unit f) c) (unit f)) (sym (round_is f s a c)) (units_val f s (kept (prec f) (a * unit f) c) (drop (prec f) (a * unit f) c) h)

-- of a fraction num / den that is a / c units
pub round_at : (f : Format) (s : Bool) (num den a c : ℕ) → 0 < den → 0 < c → num * (c * unit f) ≡ a * den → near_to (prec f) a c < limit f → InUnits f (round f s num den) s (near_to (prec f) a c)
round_at f s num den a c D C e h =
    let g : near_to (prec f) (num * unit f) den ≡ near_to (prec f) a c =
    near_to_same (prec f) (num * unit f) den a c (prec_pos f) D C (mul_assoc num (unit f) c ∙ ap (λ (k : ℕ). num * k) (mul_comm (unit f) c) ∙ e) in
    subst (λ (k : ℕ). InUnits f (round f s num den) s k) g (round_units f s num den (subst (λ (k : ℕ). k < limit f) (sym g) h))

-- ---- products

sizes : (m n d e a b u : ℕ) → m * u ≡ a * d → n * u ≡ b * e → m * n * (u * u) ≡ a * b * (d * e)
sizes m n d e a b u p q = mul-mul-mul_comm m n u u ∙ cc (p, q) ∙ mul-mul-mul_comm a d b e

pub mul_at : (f : Format) (x y : Float) (s t : Bool) (a b : ℕ) → InUnits f x s a → InUnits f y t b → near_to (prec f) (a * b) (unit f) < limit f → InUnits f (mul f x y) (unlike s t) (near_to (prec f) (a * b) (unit f))
unfolding mul
mul_at f nan y s t a b v w h = absurd v
mul_at f (inf z) y s t a b v w h = absurd v
mul_at f (fin s' m e) nan s t a b v w h = absurd w
mul_at f (fin s' m e) (inf z) s t a b v w h = absurd w
mul_at f (fin s' m e) (fin t' n d) s t a b v w h =
    let g : unlike s' t' ≡ unlike s t = cc (v.0, w.0) in
    subst (λ (z : Bool). InUnits f (round f (unlike s' t') (m * up e * (n * up d)) (down e * down d)) z (near_to (prec f) (a * b) (unit f))) g
    (round_at f (unlike s' t') (m * up e * (n * up d)) (down e * down d) (a * b) (unit f) (mul-pos (down_pos e) (down_pos d)) (unit_pos f) (sizes (m * up e) (n * up d) (down e) (down d) a b (unit f) v.1 w.1) h)

-- ---- quotients by a y above zero, whose size is b / k

pub div_at : (f : Format) (x y : Float) (s : Bool) (a b k : ℕ) → 0 < b → 0 < k → InUnits f x s a → HasValue y false b k → near_to (prec f) (a * k) b < limit f → InUnits f (div f x y) s (near_to (prec f) (a * k) b)
div_at f x y s a b k B K v w h =
    subst (λ (z : Float). InUnits f z s (near_to (prec f) (a * k) b)) (sym (Quotients.div_at f x y s a (unit f) b k (unit_pos f) B K v w))
    (round_at f s (a * k) (b * unit f) (a * k) b (mul-pos B (unit_pos f)) B refl h)

-- ---- a difference x + -y for y ≤ x

pick : (f : Format) (a b c : ℕ) → b ≤ a → sum f false a true b c ≡ round f false (a - b) c
unfolding sum
pick f a b c h = go (ltb a b) (ltb→lt a b)
  where
    go : (t : Bool) → (T t → a < b) → cond t (round f true (b - a) c) (round f false (a - b) c) ≡ round f false (a - b) c
    go true k = absurd (not-le_of_lt (k tt) h)
    go false k = refl

-- A and B over c are a and b units: their difference is a - b
pub apart : (A B c a b u : ℕ) → A * u ≡ a * c → B * u ≡ b * c → (A - B) * u ≡ (a - b) * c
apart A B c a b u p q =
    spread A B u ∙ ap (λ (k : ℕ). k - B * u) p ∙ ap (λ (k : ℕ). a * c - k) q ∙ sym (spread a b c)
  where
    spread : (x y w : ℕ) → (x - y) * w ≡ x * w - y * w
    spread x y w = mul_comm (x - y) w ∙ mul-sub w x y ∙ ap (λ (k : ℕ). k - w * y) (mul_comm w x) ∙ ap (λ (k : ℕ). x * w - k) (mul_comm w y)

over : (x d a e u : ℕ) → x * u ≡ a * e → x * d * u ≡ a * (e * d)
over x d a e u p = mul_right_comm x d u ∙ ap (λ (k : ℕ). k * d) p ∙ mul_assoc a e d

pub sub_at : (f : Format) (x y : Float) (a b : ℕ) → InUnits f x false a → InUnits f y true b → b ≤ a → near_to (prec f) (a - b) 1 < limit f → InUnits f (add f x y) false (near_to (prec f) (a - b) 1)
unfolding add
sub_at f nan y a b v w l h = absurd v
sub_at f (inf z) y a b v w l h = absurd v
sub_at f (fin s' m e) nan a b v w l h = absurd w
sub_at f (fin s' m e) (inf z) a b v w l h = absurd w
sub_at f (fin true m e) (fin t' n d) a b v w l h = absurd (true≢false v.0)
sub_at f (fin false m e) (fin false n d) a b v w l h = absurd (false≢true w.0)
sub_at f (fin false m e) (fin true n d) a b v w l h =
    let A = m * up e * down d in
    let B = n * up d * down e in
    let c = down e * down d in
    let p : A * unit f ≡ a * c = over (m * up e) (down d) a (down e) (unit f) v.1 in
    let q : B * unit f ≡ b * c = over (n * up d) (down e) b (down d) (unit f) w.1 ∙ ap (λ (k : ℕ). b * k) (mul_comm (down d) (down e)) in
    let i : B ≤ A = le_of_mul-le-mul_right (le_trans (le_of_eq q) (le_trans (mul-le-mul_right c l) (le_of_eq (sym p)))) (unit_pos f) in
    subst (λ (z : Float). InUnits f z false (near_to (prec f) (a - b) 1)) (sym (pick f A B c i))
    (round_at f false (A - B) c (a - b) 1 (mul-pos (down_pos e) (down_pos d)) (pow_pos 0) (ap (λ (k : ℕ). (A - B) * k) (one-mul (unit f)) ∙ apart A B c a b (unit f) p q) h)

-- the same of x - y
pub minus_at : (f : Format) (x y : Float) (a b : ℕ) → InUnits f x false a → InUnits f y false b → b ≤ a → near_to (prec f) (a - b) 1 < limit f → InUnits f (sub f x y) false (near_to (prec f) (a - b) 1)
unfolding sub
minus_at f x y a b v w l h = sub_at f x (neg y) a b v (neg_at y false b (unit f) w) l h

-- ---- to another format

-- from g's units to f's
pub narrow_at : (f g : Format) (x : Float) (s : Bool) (a : ℕ) → InUnits g x s a → near_to (prec f) (a * unit f) (unit g) < limit f → InUnits f (rounded f x) s (near_to (prec f) (a * unit f) (unit g))
narrow_at f g x s a v h =
    subst (λ (z : Float). InUnits f z s (near_to (prec f) (a * unit f) (unit g))) (sym (rounded_at f x s a (unit g) (unit_pos g) v)) (round_units f s a (unit g) h)

-- ---- a size up to q * 2 ^ j, which the format holds, stays so when it is rounded

pub within : (f : Format) (n c q j : ℕ) → 0 < c → q < 2 ^ prec f → n ≤ q * 2 ^ j * c → near_to (prec f) n c ≤ q * 2 ^ j
within f n c q j C Q h = le_trans (near_to_mono (prec f) n c (q * 2 ^ j) 1 (prec_pos f) C (pow_pos 0) (le_trans (le_of_eq (mul-one n)) h)) (le_of_eq (near_to_fixes (prec f) q j Q))

-- ---- the order

pub lt_of_values : (f : Format) (x y : Float) (a b : ℕ) → InUnits f x false a → InUnits f y false b → a < b → T (lt x y)
unfolding lt
lt_of_values f nan y a b v w h = absurd v
lt_of_values f (inf z) y a b v w h = absurd v
lt_of_values f (fin s m e) nan a b v w h = absurd w
lt_of_values f (fin s m e) (inf z) a b v w h = absurd w
lt_of_values f (fin true m e) (fin t n d) a b v w h = absurd (true≢false v.0)
lt_of_values f (fin false m e) (fin true n d) a b v w h = absurd (true≢false w.0)
lt_of_values f (fin false m e) (fin false n d) a b v w h = go (ltb (m * up e * down d) (n * up d * down e)) (nltb→le (m * up e * down d) (n * up d * down e))
  where
    go : (t : Bool) → (T (not t) → n * up d * down e ≤ m * up e * down d) → T t
    go true k = tt
    go false k =
        let l : b * unit f ≤ a * unit f = transfer b a (unit f) (unit f) (n * up d) (m * up e) (down d) (down e) (down_pos d) (down_pos e) (sym w.1) (sym v.1) (k tt) in
        absurd (not-le_of_lt h (le_of_mul-le-mul_right l (unit_pos f)))
