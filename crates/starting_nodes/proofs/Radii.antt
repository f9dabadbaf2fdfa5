-- The radii of starting, for a growth from 1 + 1/128 to 2 and an m up to 128: they rise (`radii`). The product of a radius R and the growth is at least R + R / 128, which even rounded is above R (`grows`);
-- and with 0.0025 at most 2 ^ -8, and twice a power of two at most the next, the radius j is at most 2 ^ (j - 9), so that none overflows (`bound`, `held`). Assumes nothing.
use mathlib.Core.Path.{◌≡◌, refl, ap, ◌∙◌, subst}
use mathlib.Core.Bool.{false}
use Prim.Native.Nat.{ℕ, zero, suc, ◌+◌, ◌-◌, ◌*◌, ◌/◌, ◌^◌, ◌≤◌, ◌<◌}
use native.Mathlib.Nat.{le_trans, le_of_eq, le_of_lt, lt_of_le_of_lt, lt_of_lt_of_le, one-mul, mul-le-mul, mul-le-mul_left, mul-le-mul_right, pow-succ'}
use native.Mathlib.Omega.{arith}
use lib.Dec.{lit<, lit≤}
use lib.Pow.{pow_pos, pow-lt}
use lib.Ieee.{Float, binary32, of_bits}
use Rattle.starting_nodes.specs.Nodes.{«0·0025», radius_sample}
use Rattle.units.proofs.Near.{near_to, near_to_mono, near_error}
use Rattle.units.proofs.Sizes.{unit, unit_pos, limit, InUnits, within, mul_at}
use Rattle.starting_nodes.proofs.Exponentials.{o}
use Rattle.starting_nodes.proofs.Arguments.{zero_at}
use Rattle.interpolation.proofs.Rising.{Rising}

-- 0.0025, in units
unfoldable pub first_n : ℕ
first_n = 10737418 * 2 ^ 117

first_at : InUnits binary32 «0·0025» false first_n
unfolding of_bits unit first_n
first_at = (refl, refl)

unfoldable pub radius_n : ℕ → ℕ → ℕ
radius_n G zero = 0
radius_n G (suc zero) = first_n
radius_n G (suc (suc j)) = near_to 24 (radius_n G (suc j) * G) o

-- ---- one step up

grows : (R G : ℕ) → 16777216 ≤ R → 129 * o ≤ 128 * G → R < near_to 24 (R * G) o
grows R G l g = go (near_to 24 (R + R / 128) 1) ((near_error (R + R / 128)).1) (near_to_mono 24 (R + R / 128) 1 (R * G) o (lit< tt) (pow_pos 0) (unit_pos binary32) above)
  where
    above : (R + R / 128) * o ≤ R * G * 1
    above = part (R / 128) (down R)
      where
        down : (x : ℕ) → 128 * (x / 128) ≤ x
        down x = omega arith

        part : (f : ℕ) → 128 * f ≤ R → (R + f) * o ≤ R * G * 1
        part f h =
            let a : R * (129 * o) ≤ R * (128 * G) = mul-le-mul_left R g in
            let b : 128 * f * o ≤ R * o = mul-le-mul_right o h in
            omega arith

    go : (n : ℕ) → (R + R / 128) * 16777216 ≤ n * 16777216 + (R + R / 128) → n ≤ near_to 24 (R * G) o → R < near_to 24 (R * G) o
    go n e h = lt_of_lt_of_le {m = n} (omega arith) h

module _ (g : Float) (G : ℕ) (v : InUnits binary32 g false G) (low : 129 * o ≤ 128 * G) (high : G ≤ 2 * o) where
  -- the radius j + 1 is at most 2 ^ (141 + j) units
  bound : (j : ℕ) → radius_n G (suc j) ≤ 1 * 2 ^ (141 + j)
  unfolding radius_n first_n
  bound zero = lit≤ tt
  bound (suc j) =
      let a : radius_n G (suc j) * G ≤ 1 * 2 ^ (141 + j) * (2 * o) = mul-le-mul (bound j) high in
      let e : 2 ^ (141 + suc j) ≡ 2 * 2 ^ (141 + j) = ap (λ (k : ℕ). 2 ^ k) (shift j) ∙ pow-succ' 2 (141 + j) in
      let b : 2 ^ (141 + suc j) * o ≡ 2 * 2 ^ (141 + j) * o = ap (λ (k : ℕ). k * o) e in
      within binary32 (radius_n G (suc j) * G) o 1 (141 + suc j) (unit_pos binary32) (lit< tt) (omega arith)
    where
      shift : (j : ℕ) → 141 + suc j ≡ suc (141 + j)
      shift j = omega arith

  large : (j : ℕ) → 16777216 ≤ radius_n G (suc j)
  unfolding radius_n first_n
  large zero = lit≤ tt
  large (suc j) = le_trans (large j) (le_of_lt (grows (radius_n G (suc j)) G (large j) low))

  room : (j : ℕ) → j < 128 → 141 + j < 277
  room j l = omega arith

  held : (j : ℕ) → j < 128 → 1 * 2 ^ (141 + j) < limit binary32
  unfolding limit
  held j l = lt_of_le_of_lt (le_of_eq (one-mul (2 ^ (141 + j)))) (pow-lt (room j l))

  radius_is : (j : ℕ) → j < 128 → InUnits binary32 (radius_sample g j) false (radius_n G j)
  unfolding radius_sample radius_n
  radius_is zero l = zero_at
  radius_is (suc zero) l = first_at
  radius_is (suc (suc j)) l =
      mul_at binary32 (radius_sample g (suc j)) g false false (radius_n G (suc j)) G (radius_is (suc j) (omega arith)) v (lt_of_le_of_lt (bound (suc j)) (held (suc j) (omega arith)))

  radius_step : (j : ℕ) → radius_n G j < radius_n G (suc j)
  unfolding radius_n
  radius_step zero = lt_of_lt_of_le {m = 16777216} (lit< tt) (large 0)
  radius_step (suc j) = grows (radius_n G (suc j)) G (large j) low

  pub radii : (m : ℕ) → 2 ≤ m → m ≤ 128 → Rising m (radius_sample g)
  radii m l h =
      record {
        size = radius_n G;
        at = λ k i. radius_is k (inner k i);
        step = λ k i. subst (λ (j : ℕ). radius_n G k < radius_n G j) (next k) (radius_step k);
        digits = 1;
        places = 141 + (m - 2);
        small = lit< tt;
        held = held (m - 2) (omega arith);
        top = le_trans (le_of_eq (ap (radius_n G) last)) (bound (m - 2));
      }
    where
      inner : (k : ℕ) → k < m → k < 128
      inner k i = omega arith

      next : (k : ℕ) → suc k ≡ k + 1
      next k = omega arith

      last : m - 1 ≡ suc (m - 2)
      last = omega arith
