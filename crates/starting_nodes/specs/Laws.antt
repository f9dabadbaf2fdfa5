-- The laws of the nodes: what holds of the definitions, beyond what they say. `NodeLaws`, at the end, is the contract of a function, `laws`; what stands before it are its words.
use Rattle.std.specs.Prelude.{ℕ, ◌≤◌, ◌<◌, ◌≡◌, true, T, Float}
use Rattle.std.specs.Float.{binary32}
use Rattle.std.specs.Float.Ieee.{fits, le}
use Rattle.elementary.specs.Notation.{lit}
use Rattle.elementary.specs.Lists.{list_of}
use Rattle.interpolation.specs.Nodes.{nodes_ok}
use Rattle.scattering.specs.Literals.{two}
use Rattle.starting_nodes.specs.Nodes.{«0·0025», eight, radius_sample, rho_sample}

-- 1.01, by its bits; proofs/Literals.antt shows that it is what its decimal rounds to
abbrev pub «1·01» : Float
«1·01» = lit 0x3f81_47ae

-- x is a value of binary32 from low to high
abbrev pub Within : Float → Float → Float → Type 0
Within low high x = T (fits binary32 x) × T (le low x) × T (le x high)

pub record NodeLaws : Type 0 where
  -- for a growth from 1.01 to 2, and 2 to 64 radii, check 6 passes the radii
  pub radii_pass : (growth : Float) (m : ℕ) → Within «1·01» two growth → 2 ≤ m → m ≤ 64 → nodes_ok (list_of m (radius_sample growth)) ≡ true
  -- for a decay from 2 to 8, and 2 to 1,024 albedos, it passes the albedos
  pub albedos_pass : (decay : Float) (n : ℕ) → Within two eight decay → 2 ≤ n → n ≤ 1024 → nodes_ok (list_of n (rho_sample decay n)) ≡ true
  -- the first two radii are +0 and 0.0025
  pub first_radii : (growth : Float) → (radius_sample growth 0 ≡ lit 0) × (radius_sample growth 1 ≡ «0·0025»)
  -- the first albedo is +0, and each is from 0 to 2
  pub first_albedo : (decay : Float) (n : ℕ) → Within two eight decay → 2 ≤ n → n ≤ 1024 → rho_sample decay n 0 ≡ lit 0
  pub albedo_range : (decay : Float) (n i : ℕ) → Within two eight decay → 2 ≤ n → n ≤ 1024 → i < n → T (le (lit 0) (rho_sample decay n i)) × T (le (rho_sample decay n i) two)
