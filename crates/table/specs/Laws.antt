-- The laws of a table: what holds of the definitions, beyond what they say. `TableLaws`, at the end, is the contract of a function, `laws`; what stands before it are its words.
use Rattle.std.specs.Prelude.{ℕ, ◌<◌, ◌≡◌, true, cond, eqb, T, length, get_or}
use Rattle.std.specs.Float.{nan}
use Rattle.std.specs.Float.Ieee.{le}
use Rattle.elementary.specs.Notation.{lit}
use Rattle.interpolation.specs.Nodes.{nodes_ok}
use Rattle.scattering.specs.Literals.{two}
use Rattle.starting_nodes.specs.Nodes.{«0·0025»}
use Rattle.table.specs.Parameters.{Lists, lengths_of}
use Rattle.table.specs.Checks.{check5, record_number, start_number, table_number, build_number}
use Rattle.table.specs.Nodes.{rho_samples, radius_samples}
use Rattle.table.specs.TableRow.{TableRow, row_at, built_row, empty_row, replaced}
use Rattle.table.specs.Starting.{started, start}
use Rattle.table.specs.Building.{built, build}
use Rattle.table.specs.Sets.{Rows, no_rows, adding, table_with, table_of}
use Rattle.table.specs.declared.parameters.Record.{Record}
use Rattle.table.specs.declared.parameters.Lengths.{Lengths}

-- no check of building refuses
abbrev pub Accepted : Record → ℕ → Lists → Type 0
Accepted r i t = build_number r i t.rho_samples t.radius_samples (lengths_of t) ≡ 0

-- a row's parts of the profile and of the CDF have M places each
abbrev pub Full : Record → TableRow → Type 0
Full r row = (length row.profile ≡ r.m) × (length row.cdf ≡ r.m)

-- ---- the laws

pub record TableLaws : Type 0 where
  -- the equation for each row: where row i is replaced by a full one it is that, and every other row is as it was; so after an accepted build, row i is as building gives it
  pub each_replaced : (r : Record) (i : ℕ) (row : TableRow) (t : Lists) → Full r row → check5 r (lengths_of t) ≡ 0 → i < r.n → (k : ℕ) → k < r.n
      → row_at r (replaced r i row t) k ≡ cond (eqb k i) row (row_at r t k)
  pub each_row : (r : Record) (i : ℕ) (t : Lists) → Accepted r i t → (k : ℕ) → k < r.n
      → row_at r (built r i t) k ≡ cond (eqb k i) (built_row r i t.rho_samples t.radius_samples) (row_at r t k)
  -- rows and nodes are all there is: two tables of the record's lengths with the same nodes and the same rows are the same table
  pub rows_decide : (r : Record) (s t : Lists) → check5 r (lengths_of s) ≡ 0 → check5 r (lengths_of t) ≡ 0
      → s.rho_samples ≡ t.rho_samples → s.radius_samples ≡ t.radius_samples → ((k : ℕ) → k < r.n → row_at r s k ≡ row_at r t k) → s ≡ t
  -- replacing a row leaves the lengths, and a build the nodes and the lengths
  pub lengths_replaced : (r : Record) (i : ℕ) (row : TableRow) (t : Lists) → Full r row → check5 r (lengths_of t) ≡ 0 → i < r.n → lengths_of (replaced r i row t) ≡ lengths_of t
  pub nodes_kept : (r : Record) (i : ℕ) (t : Lists) → ((built r i t).rho_samples ≡ t.rho_samples) × ((built r i t).radius_samples ≡ t.radius_samples)
  pub lengths_kept : (r : Record) (i : ℕ) (t : Lists) → Accepted r i t → lengths_of (built r i t) ≡ lengths_of t
  -- what is built depends on the record, the row's number and the two node lists alone
  pub nodes_decide : (r : Record) (i : ℕ) (s t : Lists) → Accepted r i s → Accepted r i t
      → s.rho_samples ≡ t.rho_samples → s.radius_samples ≡ t.radius_samples → row_at r (built r i s) i ≡ row_at r (built r i t) i
  -- the table of a set with any full rows has the record's lengths, and its row k is the one given if the set has it, and else empty
  pub lengths_of_with : (r : Record) (S : Rows) (f : ℕ → TableRow) → ((k : ℕ) → Full r (f k)) → check5 r (lengths_of (table_with r S f)) ≡ 0
  pub row_of_with : (r : Record) (S : Rows) (f : ℕ → TableRow) → ((k : ℕ) → Full r (f k)) → (k : ℕ) → k < r.n → row_at r (table_with r S f) k ≡ cond (S k) (f k) (empty_row r)
  -- a started table is that of no rows, and replacing row i by the one given adds it to the set
  pub started_with : (r : Record) (f : ℕ → TableRow) → started r ≡ table_with r no_rows f
  pub replaced_on : (r : Record) (S : Rows) (f : ℕ → TableRow) → ((k : ℕ) → Full r (f k)) → (i : ℕ) → i < r.n → replaced r i (f i) (table_with r S f) ≡ table_with r (adding i S) f
  -- the same of the set's table, whose rows are as building gives them
  pub lengths_of_table : (r : Record) (S : Rows) → check5 r (lengths_of (table_of r S)) ≡ 0
  pub row_of_table : (r : Record) (S : Rows) (k : ℕ) → k < r.n → row_at r (table_of r S) k ≡ cond (S k) (built_row r k (rho_samples r) (radius_samples r)) (empty_row r)
  pub started_is : (r : Record) → started r ≡ table_of r no_rows
  pub built_on : (r : Record) (S : Rows) (i : ℕ) → i < r.n → built r i (table_of r S) ≡ table_of r (adding i S)
  -- the nodes of a record that checks 1 to 4 accept pass check 6, so on a table that has them it refuses nothing
  pub nodes_pass : (r : Record) → record_number r ≡ 0 → (nodes_ok (rho_samples r) ≡ true) × (nodes_ok (radius_samples r) ≡ true)
  pub never_6 : (r : Record) (l : Lengths) → table_number r (rho_samples r) (radius_samples r) l ≡ start_number r l
  -- its first albedo is +0, and each is from 0 to 2; its first two radii are +0 and 0.0025
  pub nodes_begin : (r : Record) → record_number r ≡ 0
      → (get_or (rho_samples r) 0 nan ≡ lit 0) × (get_or (radius_samples r) 0 nan ≡ lit 0) × (get_or (radius_samples r) 1 nan ≡ «0·0025»)
  pub albedo_range : (r : Record) → record_number r ≡ 0 → (i : ℕ) → i < r.n → let rho = get_or (rho_samples r) i nan in T (le (lit 0) rho) × T (le rho two)
  -- a refused call leaves every list as it was
  pub start_refused : (r : Record) (t : Lists) → 0 < start_number r (lengths_of t) → (start r t).lists ≡ t
  pub build_refused : (r : Record) (i : ℕ) (t : Lists) → 0 < build_number r i t.rho_samples t.radius_samples (lengths_of t) → (build r i t).lists ≡ t
