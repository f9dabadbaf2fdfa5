-- Every record that the checks 1 to 4 accept starts a table whose nodes check 6 passes (`nodes_pass`): its sizes, and 1.2 and 8, lie in the ranges for which `starting_nodes` proves it. So check 6 refuses nothing on a table with these nodes (`never_6`). Assumes nothing.
use mathlib.Core.Path.{◌≡◌, refl, ◌∙◌}
use mathlib.Core.Bool.{true}
use mathlib.Core.List.{List, [], ◌∷◌}
use Prim.Native.Nat.{ℕ, zero, suc, ◌≤◌, ◌<◌}
use native.Mathlib.Nat.{le_trans, lt_of_lt_of_le}
use lib.Dec.{T, lit<, lit≤}
use lib.ListN.{get_or}
use lib.Ieee.{Float, nan, binary32, lt, le, eq, of_bits}
use lib.Ieee.Bits.{of_bits-fits}
use Rattle.elementary.specs.Notation.{lit}
use Rattle.elementary.proofs.Filled.{get_or_list_of}
use Rattle.answers.specs.Checks.{first_of}
use Rattle.answers.proofs.Refusals.{first_none}
use Rattle.interpolation.specs.Nodes.{nodes_ok}
use Rattle.interpolation.specs.Laws.{Holds}
use Rattle.interpolation.specs.Checks.{check6, max_rows, max_radii}
use Rattle.scattering.specs.Literals.{two}
use Rattle.starting_nodes.specs.Nodes.{«0·0025», «1·2», eight, radius_sample, rho_sample}
use Rattle.starting_nodes.specs.Laws.{«1·01», Within}
use Rattle.starting_nodes.proofs.Holding.{radii_hold, albedos_hold}
use Rattle.starting_nodes.proofs.NodeLaws.{node_laws}
use Rattle.table.specs.Checks.{record_number, start_number, table_number}
use Rattle.table.specs.Nodes.{rho_samples, radius_samples}
use Rattle.table.specs.declared.parameters.Record.{Record}
use Rattle.table.specs.declared.parameters.Lengths.{Lengths}
use Rattle.table.proofs.Refusals.{InRange, record_in_range}

growth_within : Within «1·01» two «1·2»
unfolding le lt eq of_bits
growth_within = (of_bits-fits binary32 0x3f99_999a, tt, tt)

decay_within : Within two eight eight
unfolding le lt eq of_bits
decay_within = (of_bits-fits binary32 0x4100_0000, tt, tt)

-- of any record, they are values of binary32
pub samples_hold : (r : Record) → Holds (rho_samples r) × Holds (radius_samples r)
unfolding rho_samples radius_samples
samples_hold r = (albedos_hold eight r.n, radii_hold «1·2» r.m)

module _ (r : Record) (h : record_number r ≡ 0) where
  range : InRange r
  range = record_in_range r h

  rows : r.n ≤ 1024
  unfolding max_rows
  rows = le_trans range.rows.1 (lit≤ tt)

  pub nodes_pass : (nodes_ok (rho_samples r) ≡ true) × (nodes_ok (radius_samples r) ≡ true)
  unfolding rho_samples radius_samples max_radii
  nodes_pass = (node_laws.albedos_pass eight r.n decay_within range.rows.0 rows, node_laws.radii_pass «1·2» r.m growth_within range.radii.0 range.radii.1)

  rho_at : (i : ℕ) → i < r.n → get_or (rho_samples r) i nan ≡ rho_sample eight r.n i
  unfolding rho_samples
  rho_at i l = get_or_list_of r.n (rho_sample eight r.n) nan i l

  radius_at : (j : ℕ) → j < r.m → get_or (radius_samples r) j nan ≡ radius_sample «1·2» j
  unfolding radius_samples
  radius_at j l = get_or_list_of r.m (radius_sample «1·2») nan j l

  pub nodes_begin : (get_or (rho_samples r) 0 nan ≡ lit 0) × (get_or (radius_samples r) 0 nan ≡ lit 0) × (get_or (radius_samples r) 1 nan ≡ «0·0025»)
  nodes_begin =
      let first = node_laws.first_radii «1·2» in (
        rho_at 0 (lt_of_lt_of_le (lit< tt) range.rows.0) ∙ node_laws.first_albedo eight r.n decay_within range.rows.0 rows,
        radius_at 0 (lt_of_lt_of_le (lit< tt) range.radii.0) ∙ first.0,
        radius_at 1 range.radii.0 ∙ first.1,
      )

  pub albedo_range : (i : ℕ) → i < r.n → let rho = get_or (rho_samples r) i nan in T (le (lit 0) rho) × T (le rho two)
  albedo_range i l = rw (rho_at i l) (node_laws.albedo_range eight r.n i decay_within range.rows.0 rows l)

-- ---- check 6

passes : (nodes : List Float) → nodes_ok nodes ≡ true → check6 nodes ≡ 0
unfolding check6
passes nodes h = rw h refl

pub record_passed : (r : Record) (l : Lengths) → start_number r l ≡ 0 → record_number r ≡ 0
unfolding start_number
record_passed r l e = (first_none (record_number r) _ e).0

pub never_6 : (r : Record) (l : Lengths) → table_number r (rho_samples r) (radius_samples r) l ≡ start_number r l
unfolding table_number first_of
never_6 r l = go (start_number r l) (check6 (rho_samples r)) (check6 (radius_samples r)) (λ e. passes (rho_samples r) (ok e).0) (λ e. passes (radius_samples r) (ok e).1)
  where
    ok : start_number r l ≡ 0 → (nodes_ok (rho_samples r) ≡ true) × (nodes_ok (radius_samples r) ≡ true)
    ok e = nodes_pass r (record_passed r l e)

    go : (k a b : ℕ) → (k ≡ 0 → a ≡ 0) → (k ≡ 0 → b ≡ 0) → first_of (k ∷ a ∷ b ∷ []) ≡ k
    go zero a b p q = rw (p refl, q refl) refl
    go (suc k) a b p q = refl
