-- The table of a set of rows (specification, section 12.2): the nodes of starting; a row in the set as building gives it, marked 1; +0 and mark 0 elsewhere.
use Rattle.std.specs.Prelude.{ℕ, zero, suc, Bool, true, false, cond, List, [], ◌++◌, eqb}
use Rattle.elementary.specs.Lists.{list_of}
use Rattle.table.specs.Parameters.{Lists}
use Rattle.table.specs.Nodes.{rho_samples, radius_samples}
use Rattle.table.specs.TableRow.{TableRow, built_row, empty_row}
use Rattle.table.specs.declared.parameters.Record.{Record}

-- a set of row numbers, by membership: two sets with the same members are equal
abbrev pub Rows : Type 0
Rows = ℕ → Bool

abbrev pub no_rows : Rows
no_rows k = false

abbrev pub adding : ℕ → Rows → Rows
adding i S k = cond (eqb k i) true (S k)

-- the parts f j, f (j + 1), .., n of them, one after the other
unfoldable pub rows_from : {A : Type 0} → ℕ → ℕ → (ℕ → List A) → List A
rows_from j zero f = []
rows_from j (suc n) f = f j ++ rows_from (suc j) n f

-- the table of a set with any rows, on the nodes of starting: row k is f k, its mark among it, if the set has it, and else empty
unfoldable pub table_with : Record → Rows → (ℕ → TableRow) → Lists
table_with r S f =
    let row : ℕ → TableRow = λ k. cond (S k) (f k) (empty_row r) in
    record {
      rho_samples = rho_samples r;
      radius_samples = radius_samples r;
      profile = rows_from 0 r.n (λ k. (row k).profile);
      rho_eff = list_of r.n (λ k. (row k).albedo);
      profile_cdf = rows_from 0 r.n (λ k. (row k).cdf);
      marks = list_of r.n (λ k. (row k).mark);
    }

-- the set's table: its rows are as building gives them on the nodes of starting, marked 1
unfoldable pub table_of : Record → Rows → Lists
table_of r S = table_with r S (λ k. built_row r k (rho_samples r) (radius_samples r))
