-- A quotient by a positive value is the exact quotient, rounded once (`div_at`), and a whole number up to 2 ^ 53 is itself in binary64 (`whole64_at`). Assumes nothing.
use Rattle.std.proofs.Common.{◌≡◌, ℕ, ◌*◌, ◌^◌, ◌<◌, ◌≤◌, Bool, true, false, cond, eqb, refl, sym, ap, ◌∙◌, subst, true≢false, mul_assoc, mul_comm, mul-pos, mul_left_comm, arith, ne_eqb}
use lib.Ieee.{Float, nan, inf, fin, Format, binary64, up, down, unlike, round, div, of_int}
use lib.Ieee.Fits.{up_pos, down_pos}
use lib.Ieee.Exact.{HasValue}
use lib.Ieee.Back.{round_whole}
use lib.Ieee.Scale.{round_same}
use lib.Ieee.Positive.{first_pos}
use Rattle.elementary.specs.Notation.{whole64}

pub whole64_at : (n : ℕ) → n ≤ 2 ^ 53 → HasValue (whole64 n) false n 1
unfolding of_int
whole64_at n h = round_whole binary64 false n h

cross : (m d n g a c b k : ℕ) → m * c ≡ a * d → n * k ≡ b * g → m * g * (b * c) ≡ a * k * (n * d)
cross m d n g a c b k p q =
    let l : m * g * (b * c) ≡ m * c * (b * g) = simp (mul_assoc, mul_comm, mul_left_comm) in
    let r : a * d * (n * k) ≡ a * k * (n * d) = simp (mul_assoc, mul_comm, mul_left_comm) in
    l ∙ ap (λ (z : ℕ). z * (b * g)) p ∙ ap (λ (z : ℕ). a * d * z) (sym q) ∙ r

pub div_at : (f : Format) (x y : Float) (s : Bool) (a c b k : ℕ) → 0 < c → 0 < b → 0 < k → HasValue x s a c → HasValue y false b k → div f x y ≡ round f s (a * k) (b * c)
unfolding div
div_at f nan y s a c b k C B K v w = absurd v
div_at f (inf t) y s a c b k C B K v w = absurd v
div_at f (fin t m e) nan s a c b k C B K v w = absurd w
div_at f (fin t m e) (inf u) s a c b k C B K v w = absurd w
div_at f (fin t m e) (fin true n d) s a c b k C B K v w = absurd (true≢false w.0)
div_at f (fin t m e) (fin false n d) s a c b k C B K v w =
    let p : 0 < n = first_pos n (up d) (first_pos (n * up d) k (subst (λ (z : ℕ). 0 < z) (sym w.1) (mul-pos B (down_pos d)))) in
    ap (λ (b : Bool). cond b (cond (eqb m 0) nan (inf (unlike t false))) (round f (unlike t false) (m * up e * down d) (n * up d * down e))) (ne_eqb n 0 (λ z. omega arith))
    ∙ ap (λ (b : Bool). round f b (m * up e * down d) (n * up d * down e)) (plain t ∙ v.0)
    ∙ round_same f s (m * up e * down d) (n * up d * down e) (a * k) (b * c) (mul-pos (mul-pos p (up_pos d)) (down_pos e)) (mul-pos B C)
    (cross (m * up e) (down e) (n * up d) (down d) a c b k v.1 w.1)
  where
    plain : (t : Bool) → unlike t false ≡ t
    plain true = refl
    plain false = refl
