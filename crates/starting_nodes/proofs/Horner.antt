-- The series of E, ten terms in binary64, at a y that is not above zero, over its size Y in units of 2 ^ -1074, where 1 is `U` and a rounding of a value up to 1 moves it by at most `err`, which is 2 ^ -53.
-- `terms_at` has the floats as these whole numbers. Neighbours of the distance D are at least 28/30 of D apart (`terms_apart`), and the sum is at least 1 - Y (`terms_from`), up to the roundings. Assumes nothing.
use mathlib.Core.Path.{◌≡◌, refl, sym, ap, subst}
use mathlib.Core.Bool.{true, false}
use Prim.Native.Nat.{ℕ, zero, suc, ◌+◌, ◌-◌, ◌*◌, ◌^◌, ◌≤◌, ◌<◌}
use native.Mathlib.Nat.{le_trans, le_of_eq, lt_of_le_of_lt, zero-lt-suc, mul-one, mul_comm, mul-le-mul, mul-le-mul_right, mul-le-mul_left, mul-lt-mul_of_pos_right, sub-le}
use native.Mathlib.Omega.{arith}
use lib.Dec.{lit<, lit≤}
use lib.Pow.{pow_pos}
use lib.Ieee.{Float, binary64, of_bits}
use Rattle.elementary.specs.Notation.{◌⊞◌, ◌⊠◌, ◌⧄◌, one64, whole64}
use Rattle.elementary.specs.Exponential.{terms}
use Rattle.elementary.proofs.Quotients.{whole64_at}
use Rattle.units.proofs.Near.{near_to, near_to_mono, near_to_off, rest_off, OffBy}
use Rattle.units.proofs.Sizes.{unit, unit_pos, limit, InUnits, within, mul_at, div_at, sub_at}
use Rattle.starting_nodes.proofs.Steps.{Step, Small, Neighbours, next, last, r_from}

abbrev pub U : ℕ
U = unit binary64

unfoldable pub err : ℕ
err = 2 ^ 1021

pub err_is : U ≡ 9007199254740992 * err
unfolding unit err
err_is = refl

-- ---- a fraction up to 1

pub U_under : U < limit binary64
unfolding unit limit
U_under = lit< tt

pub most : (n c : ℕ) → 0 < c → n ≤ U * c → near_to 53 n c ≤ U
unfolding unit
most n c C h = within binary64 n c 1 1074 C (lit< tt) h

pub under : (n c : ℕ) → 0 < c → n ≤ U * c → near_to 53 n c < limit binary64
under n c C h = lt_of_le_of_lt (most n c C h) U_under

pub off : (n c : ℕ) → 0 < c → n ≤ U * c → OffBy (near_to 53 n c) n c err
unfolding unit err
off n c C h = near_to_off 53 1021 n c C (lt_of_le_of_lt h (mul-lt-mul_of_pos_right (lit< tt) C))

pub one64_at : InUnits binary64 one64 false U
unfolding of_bits
one64_at = (refl, mul_comm 1 U)

-- ---- the terms, over whole numbers

unfoldable pub step_n : ℕ → ℕ → ℕ → ℕ
step_n k y p = near_to 53 (U - near_to 53 (near_to 53 y k * p) U) 1

unfoldable pub terms_n : ℕ → ℕ → ℕ → ℕ
terms_n zero y p = p
terms_n (suc k) y p = terms_n k y (step_n (suc k) y p)

module _ (k y p : ℕ) (K : 0 < k) (Y : y ≤ U) (P : p ≤ U) where
  y_in : y ≤ U * k
  y_in = le_trans Y (le_trans (le_of_eq (sym (mul-one U))) (mul-le-mul_left U K))

  t_in : near_to 53 y k * p ≤ U * U
  t_in = mul-le-mul (most y k K y_in) P

  q_in : near_to 53 (near_to 53 y k * p) U ≤ U
  q_in = most (near_to 53 y k * p) U (unit_pos binary64) t_in

  r_in : U - near_to 53 (near_to 53 y k * p) U ≤ U * 1
  r_in = le_trans (sub-le U (near_to 53 (near_to 53 y k * p) U)) (le_of_eq (sym (mul-one U)))

  step_top : step_n k y p ≤ U
  unfolding step_n
  step_top = most (U - near_to 53 (near_to 53 y k * p) U) 1 (pow_pos 0) r_in

  step : Step U err k y p (near_to 53 y k) (near_to 53 (near_to 53 y k * p) U) (step_n k y p)
  unfolding step_n
  step =
      let a = off y k K y_in in
      let b = off (near_to 53 y k * p) U (unit_pos binary64) t_in in
      let c = off (U - near_to 53 (near_to 53 y k * p) U) 1 (pow_pos 0) r_in in
      let d = rest_off (near_to 53 (near_to 53 y k * p) U) (step_n k y p) U err q_in c in
      record {
        t_low = a.0;
        t_high = a.1;
        q_low = b.0;
        q_high = b.1;
        r_low = d.0;
        r_high = d.1;
        top = step_top;
      }

  -- the floats
  pub step_at : (x s : Float) → k ≤ 10 → InUnits binary64 x true y → InUnits binary64 s false p → InUnits binary64 (one64 ⊞ x ⧄ whole64 k ⊠ s) false (step_n k y p)
  unfolding step_n
  step_at x s L v w =
      let a : near_to 53 (y * 1) k ≡ near_to 53 y k = ap (λ (n : ℕ). near_to 53 n k) (mul-one y) in
      let b : InUnits binary64 (x ⧄ whole64 k) true (near_to 53 y k) =
      subst (λ (n : ℕ). InUnits binary64 (x ⧄ whole64 k) true n) a (div_at binary64 x (whole64 k) true y k 1 K (pow_pos 0) v (whole64_at k (le_trans L (lit≤ tt))) (subst (λ (n : ℕ). n < limit binary64) (sym a) (under y k K y_in))) in
      sub_at binary64 one64 (x ⧄ whole64 k ⊠ s) U (near_to 53 (near_to 53 y k * p) U) one64_at (mul_at binary64 (x ⧄ whole64 k) s true false (near_to 53 y k) p b w (under (near_to 53 y k * p) U (unit_pos binary64) t_in)) q_in (under (U - near_to 53 (near_to 53 y k * p) U) 1 (pow_pos 0) r_in)

pub terms_at : (k y p : ℕ) (x s : Float) → k ≤ 10 → y ≤ U → p ≤ U → InUnits binary64 x true y → InUnits binary64 s false p → InUnits binary64 (terms k x s) false (terms_n k y p)
unfolding terms terms_n
terms_at zero y p x s L Y P v w = w
terms_at (suc k) y p x s L Y P v w =
    terms_at k y (step_n (suc k) y p) x (one64 ⊞ x ⧄ whole64 (suc k) ⊠ s) (omega arith) Y (step_top (suc k) y p (zero-lt-suc k) Y P) v (step_at (suc k) y p (zero-lt-suc k) Y P x s L v w)

pub terms_top : (k y p : ℕ) → y ≤ U → p ≤ U → terms_n k y p ≤ U
unfolding terms_n
terms_top zero y p Y P = P
terms_top (suc k) y p Y P = terms_top k y (step_n (suc k) y p) Y (step_top (suc k) y p (zero-lt-suc k) Y P)

-- ---- the sum

pub terms_from : (k y p : ℕ) → y ≤ U → p ≤ U → U ≤ terms_n (suc k) y p + y + 3 * err
unfolding terms_n
terms_from zero y p Y P = r_from (zero-lt-suc 0) (unit_pos binary64) P (step 1 y p (zero-lt-suc 0) Y P)
terms_from (suc k) y p Y P = terms_from k y (step_n (suc (suc k)) y p) Y (step_top (suc (suc k)) y p (zero-lt-suc (suc k)) Y P)

quot_mono : (k y y' : ℕ) → 0 < k → y ≤ y' → near_to 53 y k ≤ near_to 53 y' k
quot_mono k y y' K h = near_to_mono 53 y k y' k (lit< tt) K K (mul-le-mul_right k h)

pub terms_apart : (k y y' p p' d : ℕ) → k ≤ 9 → Small U err y' → y' ≡ y + d → err * 1024 ≤ d → y ≤ U → y' ≤ U → Neighbours U d p p' → 30 * terms_n (suc k) y' p' + 28 * d ≤ 30 * terms_n (suc k) y p + 178 * err
unfolding terms_n
terms_apart zero y y' p p' d L m e f Y Y' n =
    last (zero-lt-suc 0) m e f (quot_mono 1 y y' (zero-lt-suc 0) (omega arith)) n (step 1 y p (zero-lt-suc 0) Y n.top) (step 1 y' p' (zero-lt-suc 0) Y' n.top') refl
terms_apart (suc k) y y' p p' d L m e f Y Y' n =
    let j = suc (suc k) in
    terms_apart k y y' (step_n j y p) (step_n j y' p') d (omega arith) m e f Y Y'
    (next (zero-lt-suc (suc k)) m e f (quot_mono j y y' (zero-lt-suc (suc k)) (omega arith)) n (step j y p (zero-lt-suc (suc k)) Y n.top) (step j y' p' (zero-lt-suc (suc k)) Y' n.top') (omega arith) (omega arith))
