-- The laws of the nodes, over a growth of the radii from 1.01 to 2 and a decay of the albedos from 2 to 8: check 6 passes both lists (`radii_pass`, `albedos_pass`), and where they begin and end.
-- Of a value between two others the size in units lies between theirs, and with it go `Radii` and `Albedos`. Assumes nothing.
use mathlib.Core.Path.{◌≡◌, refl}
use mathlib.Core.Bool.{true, false}
use Prim.Native.Nat.{ℕ, zero, suc, ◌*◌, ◌≤◌, ◌<◌}
use native.Mathlib.Omega.{arith}
use lib.Dec.{T}
use lib.Ieee.{Float, nan, inf, fin, binary32, fits, le, of_bits}
use lib.Ieee.Exact.{HasValue}
use lib.Ieee.Order.{le_of_values}
use lib.Ieee.Positive.{positive, between, values_of_le}
use Rattle.elementary.specs.Notation.{lit}
use Rattle.elementary.specs.Lists.{list_of}
use Rattle.elementary.specs.Units.{mag}
use Rattle.elementary.proofs.Magnitude.{mag_exact}
use Rattle.interpolation.specs.Nodes.{nodes_ok}
use Rattle.interpolation.proofs.Rising as Rising
use Rattle.scattering.specs.Literals.{two}
use Rattle.starting_nodes.specs.Nodes.{«0·0025», eight, radius_sample, rho_sample}
use Rattle.starting_nodes.specs.Laws.{«1·01», Within, NodeLaws}
use Rattle.starting_nodes.proofs.Arguments.{zero_at, Range}
use Rattle.starting_nodes.proofs.Albedos as Albedos
use Rattle.starting_nodes.proofs.Exponentials.{o}
use Rattle.starting_nodes.proofs.Radii as Radii
use Rattle.units.proofs.Sizes.{unit, unit_pos, InUnits}

-- ---- a value between two, in units

-- x is from a / c up to b / e, and has `size` units
record Between (x : Float) (a c b e : ℕ) : Type 0 where
  size : ℕ
  is : InUnits binary32 x false size
  low : a * o ≤ size * c
  high : size * e ≤ b * o

mag_of : (x : Float) → T (positive x) → T (fits binary32 x) → InUnits binary32 x false (mag x)
unfolding unit
mag_of nan p F = absurd p
mag_of (inf s) p F = absurd p
mag_of (fin true m e) p F = absurd p
mag_of (fin false m e) p F = mag_exact false m e F

between_at : (lo x hi : Float) (a c b e : ℕ) → T (positive lo) → T (positive hi) → HasValue lo false a c → HasValue hi false b e → Within lo hi x → Between x a c b e
between_at lo x hi a c b e p q v w h =
    let r = between lo x hi p q h.1 h.2 in
    let i = mag_of x r h.0 in
    record { size = mag x; is = i; low = values_of_le lo x a c (mag x) o p r v i h.1; high = values_of_le x hi (mag x) o b e r q i w h.2 }

low_at : HasValue «1·01» false 8472494 8388608
unfolding of_bits
low_at = (refl, refl)

two_at : HasValue two false 2 1
unfolding of_bits
two_at = (refl, refl)

eight_at : HasValue eight false 8 1
unfolding of_bits
eight_at = (refl, refl)

positives : T (positive «1·01») × T (positive two) × T (positive eight)
unfolding of_bits
positives = (tt, tt, tt)

-- ---- the radii

radii_pass : (growth : Float) (m : ℕ) → Within «1·01» two growth → 2 ≤ m → m ≤ 64 → nodes_ok (list_of m (radius_sample growth)) ≡ true
radii_pass growth m h a b =
    let k = between_at «1·01» growth two 8472494 8388608 2 1 positives.0 positives.1 low_at two_at h in
    Rising.rising_passes m (radius_sample growth) a (Radii.radii growth k.size k.is (omega (arith, k.low)) (omega (arith, k.high)) m a (omega arith))

first_radii : (growth : Float) → (radius_sample growth 0 ≡ lit 0) × (radius_sample growth 1 ≡ «0·0025»)
unfolding radius_sample
first_radii growth = (refl, refl)

-- ---- the albedos

module _ (decay : Float) (h : Within two eight decay) where
  decay_at : Between decay 2 1 8 1
  decay_at = between_at two decay eight 2 1 8 1 positives.1 positives.2 two_at eight_at h

  range : (c : ℕ) → 2 ≤ suc c → suc c ≤ 1024 → Range decay_at.size c
  range c a b = record { least = omega (arith, decay_at.low); greatest = omega (arith, decay_at.high); some = omega arith; many = omega arith }

  pass : (n : ℕ) → 2 ≤ n → n ≤ 1024 → nodes_ok (list_of n (rho_sample decay n)) ≡ true
  pass zero a b = absurd (omega arith)
  pass (suc c) a b = Rising.rising_passes (suc c) (rho_sample decay (suc c)) a (Albedos.albedos decay decay_at.size c decay_at.is (range c a b))

  first : (n : ℕ) → 2 ≤ n → n ≤ 1024 → rho_sample decay n 0 ≡ lit 0
  first zero a b = absurd (omega arith)
  first (suc c) a b = Albedos.first decay decay_at.size c decay_at.is (range c a b)

  inside : (n i : ℕ) → 2 ≤ n → n ≤ 1024 → i < n → T (le (lit 0) (rho_sample decay n i)) × T (le (rho_sample decay n i) two)
  inside zero i a b l = absurd (omega arith)
  inside (suc c) i a b l =
      let r = range c a b in
      let k : i ≤ c = omega arith in
      let v = Albedos.sample_at decay decay_at.size c decay_at.is r i k in
      let x = rho_sample decay (suc c) i in
      let s = Albedos.sample decay decay_at.size c decay_at.is r i in
      let t : s ≤ 2 * o = Albedos.sample_two decay decay_at.size c decay_at.is r i k in (
        le_of_values (lit 0) x 0 o s o (unit_pos binary32) (unit_pos binary32) zero_at v (omega arith),
        le_of_values x two s o 2 1 (unit_pos binary32) (omega arith) v two_at (omega (arith, t)),
      )

pub node_laws : NodeLaws
node_laws = record { radii_pass = radii_pass; albedos_pass = λ d n h. pass d h n; first_radii = first_radii; first_albedo = λ d n h. first d h n; albedo_range = λ d n i h. inside d h n i }
