-- The laws of a table. Replacing a row leaves every other one (`each_replaced`), and since rows and nodes make up a table (`rows_decide`) nothing else can change.
-- The table of a set with any rows is made of rows by index, so replacing row i there is adding i to the set (`replaced_on`). A build replaces a row by what building gives, and the set's table is the one with these rows. Assumes nothing.
use mathlib.Core.Path.{◌≡◌, refl, sym, ap, ap₂, ◌∙◌}
use mathlib.Core.Bool.{Bool, true, false, cond}
use mathlib.Core.List.{List}
use Prim.Native.Nat.{ℕ, ◌*◌, ◌<◌}
use borrow.Author.Tests.{eqb-true, eq-eqb}
use lib.Dec.{eqb}
use lib.ListN.{length, length-set, length-replicate}
use lib.Seq.{ext_get_or}
use lib.Ieee.{Float, nan}
use Rattle.elementary.specs.Notation.{lit}
use Rattle.elementary.proofs.Filled.{length_list_of, get_or_list_of}
use Rattle.answers.proofs.Refusals.{keeps}
use Rattle.table.specs.Parameters.{Lists, lengths_of}
use Rattle.table.specs.Checks.{check5, start_number, build_number}
use Rattle.starting_nodes.specs.Nodes.{«1·2», eight, rho_sample, radius_sample}
use Rattle.table.specs.Nodes.{rho_samples, radius_samples}
use Rattle.table.specs.TableRow.{TableRow, row_at, built_row, empty_row, replaced}
use Rattle.table.specs.Starting.{started, start}
use Rattle.table.specs.Building.{built, build}
use Rattle.table.specs.Sets.{Rows, no_rows, adding, table_with, table_of}
use Rattle.table.specs.Laws.{Accepted, Full, TableLaws}
use Rattle.table.specs.declared.parameters.Record.{Record}
use Rattle.table.proofs.NodesPass.{nodes_pass, never_6, nodes_begin, albedo_range}
use Rattle.table.proofs.Refusals.{Fits, build_accepted, lengths_fit}
use Rattle.table.proofs.Parts.{length_put, rows_same, row_within}
use Rattle.table.proofs.RowLengths.{length_profile, length_cdf_row}
use Rattle.table.proofs.RowLists.{set_at_each, put_at_each, replicate_list_of, length_rows, row_of_lem, replicate_rows}

-- ---- a row replaced

-- a choice of rows is a row of choices
choice : (b : Bool) (s t : TableRow)
    → record { profile = cond b s.profile t.profile; cdf = cond b s.cdf t.cdf; albedo = cond b s.albedo t.albedo; mark = cond b s.mark t.mark } ≡ cond b s t
choice true s t = refl
choice false s t = refl

module _ (r : Record) (i : ℕ) (row : TableRow) (t : Lists) (full : Full r row) (fits : Fits r (lengths_of t)) (l : i < r.n) where
  each : (k : ℕ) → row_at r (replaced r i row t) k ≡ cond (eqb k i) row (row_at r t k)
  unfolding row_at replaced
  each k =
      let within = row_within r.n r.m i l in
      (λ x. record {
        profile = put_at_each r.m i k row.profile t.profile full.0 (rw fits.profile_fits within) x;
        cdf = put_at_each r.m i k row.cdf t.profile_cdf full.1 (rw fits.cdf_fits within) x;
        albedo = set_at_each t.rho_eff i k row.albedo nan (rw fits.eff_fits l) x;
        mark = set_at_each t.marks i k row.mark 0 (rw fits.marks_fit l) x;
      })
      ∙ choice (eqb k i) row (row_at r t k)

  replaced_lengths : lengths_of (replaced r i row t) ≡ lengths_of t
  unfolding replaced
  replaced_lengths =
      let within = row_within r.n r.m i l in
      rw (
        length_put (i * r.m) row.profile t.profile (rw (full.0, fits.profile_fits) within),
        length_put (i * r.m) row.cdf t.profile_cdf (rw (full.1, fits.cdf_fits) within),
        length-set t.rho_eff i row.albedo,
        length-set t.marks i row.mark,
      )

-- ---- a row built

built_full : (r : Record) (i : ℕ) (rho radii : List Float) → length radii ≡ r.m → Full r (built_row r i rho radii)
unfolding built_row
built_full r i rho radii e = (length_profile r _ radii ∙ e, length_cdf_row r _ radii ∙ e)

module _ (r : Record) (i : ℕ) (t : Lists) (h : Accepted r i t) where
  abbrev row : TableRow
  row = built_row r i t.rho_samples t.radius_samples

  each_row : (k : ℕ) → k < r.n → row_at r (built r i t) k ≡ cond (eqb k i) row (row_at r t k)
  unfolding built
  each_row k l =
      let a = build_accepted r i _ _ _ h in
      let fits = a.table.sizes.fits in
      each r i row t (built_full r i _ _ fits.radius_fits) fits a.row k

  lengths_kept : lengths_of (built r i t) ≡ lengths_of t
  unfolding built
  lengths_kept =
      let a = build_accepted r i _ _ _ h in
      let fits = a.table.sizes.fits in
      replaced_lengths r i row t (built_full r i _ _ fits.radius_fits) fits a.row

  row_built : row_at r (built r i t) i ≡ row
  row_built = each_row i (build_accepted r i _ _ _ h).row ∙ rw (eq-eqb i i refl)

nodes_decide : (r : Record) (i : ℕ) (s t : Lists) → Accepted r i s → Accepted r i t
    → s.rho_samples ≡ t.rho_samples → s.radius_samples ≡ t.radius_samples → row_at r (built r i s) i ≡ row_at r (built r i t) i
nodes_decide r i s t p q rho radii = row_built r i s p ∙ ap₂ (built_row r i) rho radii ∙ sym (row_built r i t q)

nodes_kept : (r : Record) (i : ℕ) (t : Lists) → ((built r i t).rho_samples ≡ t.rho_samples) × ((built r i t).radius_samples ≡ t.radius_samples)
unfolding built replaced
nodes_kept r i t = (refl, refl)

-- ---- rows and nodes make up a table

rows_decide : (r : Record) (s t : Lists) → check5 r (lengths_of s) ≡ 0 → check5 r (lengths_of t) ≡ 0
    → s.rho_samples ≡ t.rho_samples → s.radius_samples ≡ t.radius_samples → ((k : ℕ) → k < r.n → row_at r s k ≡ row_at r t k) → s ≡ t
unfolding row_at
rows_decide r s t p q rho radii h =
    let f = lengths_fit r _ p in
    let g = lengths_fit r _ q in
    let profile = rows_same r.n r.m s.profile t.profile f.profile_fits g.profile_fits (λ k l. ap (λ (x : TableRow). x.profile) (h k l)) in
    let cdf = rows_same r.n r.m s.profile_cdf t.profile_cdf f.cdf_fits g.cdf_fits (λ k l. ap (λ (x : TableRow). x.cdf) (h k l)) in
    let eff = ext_get_or nan s.rho_eff t.rho_eff (f.eff_fits ∙ sym g.eff_fits) (λ k l. ap (λ (x : TableRow). x.albedo) (h k (rw f.eff_fits at l))) in
    let marks = ext_get_or 0 s.marks t.marks (f.marks_fit ∙ sym g.marks_fit) (λ k l. ap (λ (x : TableRow). x.mark) (h k (rw f.marks_fit at l))) in
    λ x. record { rho_samples = rho x; radius_samples = radii x; profile = profile x; rho_eff = eff x; profile_cdf = cdf x; marks = marks x }

-- ---- the table of a set with any rows

radii_long : (r : Record) → length (radius_samples r) ≡ r.m
unfolding radius_samples
radii_long r = length_list_of r.m (radius_sample «1·2»)

rho_long : (r : Record) → length (rho_samples r) ≡ r.n
unfolding rho_samples
rho_long r = length_list_of r.n (rho_sample eight r.n)

chosen_full : (r : Record) (b : Bool) (x : TableRow) → Full r x → Full r (cond b x (empty_row r))
unfolding empty_row
chosen_full r true x h = h
chosen_full r false x h = (length-replicate r.m (lit 0), length-replicate r.m (lit 0))

started_with : (r : Record) (f : ℕ → TableRow) → started r ≡ table_with r no_rows f
unfolding started table_with empty_row
started_with r f = λ x. record {
  rho_samples = rho_samples r;
  radius_samples = radius_samples r;
  profile = replicate_rows r.m 0 r.n (lit 0) x;
  rho_eff = replicate_list_of r.n (lit 0) x;
  profile_cdf = replicate_rows r.m 0 r.n (lit 0) x;
  marks = replicate_list_of r.n 0 x;
}

-- the choice by the set with i, where row i has been replaced
added : (r : Record) (i k : ℕ) (S : Rows) (f : ℕ → TableRow) → cond (eqb k i) (f i) (cond (S k) (f k) (empty_row r)) ≡ cond (adding i S k) (f k) (empty_row r)
added r i k S f = go (eqb k i) refl
  where
    go : (b : Bool) → eqb k i ≡ b → cond b (f i) (cond (S k) (f k) (empty_row r)) ≡ cond (cond b true (S k)) (f k) (empty_row r)
    go true e = ap f (sym (eqb-true k i e))
    go false e = refl

module _ (r : Record) (S : Rows) (f : ℕ → TableRow) (full : (k : ℕ) → Full r (f k)) where
  -- row k of the table
  abbrev here : ℕ → TableRow
  here k = cond (S k) (f k) (empty_row r)

  here_full : (k : ℕ) → Full r (here k)
  here_full k = chosen_full r (S k) (f k) (full k)

  row_of_with : (k : ℕ) → k < r.n → row_at r (table_with r S f) k ≡ here k
  unfolding row_at table_with
  row_of_with k l = λ x. record {
    profile = row_of_lem r.m r.n k (λ j. (here j).profile) (λ j. (here_full j).0) l x;
    cdf = row_of_lem r.m r.n k (λ j. (here j).cdf) (λ j. (here_full j).1) l x;
    albedo = get_or_list_of r.n (λ j. (here j).albedo) nan k l x;
    mark = get_or_list_of r.n (λ j. (here j).mark) 0 k l x;
  }

  lengths_of_with : check5 r (lengths_of (table_with r S f)) ≡ 0
  unfolding table_with check5
  lengths_of_with =
      rw (
        rho_long r,
        radii_long r,
        length_rows r.m r.n _ (λ j. (here_full j).0),
        length_rows r.m r.n _ (λ j. (here_full j).1),
        length_list_of r.n (λ k. (here k).albedo),
        length_list_of r.n (λ k. (here k).mark),
        eq-eqb r.n r.n refl,
        eq-eqb r.m r.m refl,
        eq-eqb (r.n * r.m) (r.n * r.m) refl,
      )

module _ (r : Record) (S : Rows) (f : ℕ → TableRow) (full : (k : ℕ) → Full r (f k)) (i : ℕ) (l : i < r.n) where
  -- the two have the same rows
  replaced_on : replaced r i (f i) (table_with r S f) ≡ table_with r (adding i S) f
  unfolding replaced table_with
  replaced_on =
      let fits = lengths_fit r _ (lengths_of_with r S f full) in
      rows_decide r (replaced r i (f i) (table_with r S f)) (table_with r (adding i S) f)
      (rw (replaced_lengths r i (f i) (table_with r S f) (full i) fits l) (lengths_of_with r S f full))
      (lengths_of_with r (adding i S) f full)
      refl refl
      (λ k m.
      each r i (f i) (table_with r S f) (full i) fits l k
      ∙ ap (λ (x : TableRow). cond (eqb k i) (f i) x) (row_of_with r S f full k m)
      ∙ added r i k S f
      ∙ sym (row_of_with r (adding i S) f full k m))

-- ---- the set's table

module _ (r : Record) where
  abbrev rows : ℕ → TableRow
  rows k = built_row r k (rho_samples r) (radius_samples r)

  full_rows : (k : ℕ) → Full r (rows k)
  full_rows k = built_full r k (rho_samples r) (radius_samples r) (radii_long r)

  started_is : started r ≡ table_of r no_rows
  unfolding table_of
  started_is = started_with r rows

  built_on : (S : Rows) (i : ℕ) → i < r.n → built r i (table_of r S) ≡ table_of r (adding i S)
  unfolding built table_of table_with
  built_on S i l = replaced_on r S rows full_rows i l

  row_of_table : (S : Rows) (k : ℕ) → k < r.n → row_at r (table_of r S) k ≡ cond (S k) (rows k) (empty_row r)
  unfolding table_of
  row_of_table S k l = row_of_with r S rows full_rows k l

  lengths_of_table : (S : Rows) → check5 r (lengths_of (table_of r S)) ≡ 0
  unfolding table_of
  lengths_of_table S = lengths_of_with r S rows full_rows

-- ---- all of them

start_refused : (r : Record) (t : Lists) → 0 < start_number r (lengths_of t) → (start r t).lists ≡ t
unfolding start
start_refused r t h = keeps _ (started r) t h

build_refused : (r : Record) (i : ℕ) (t : Lists) → 0 < build_number r i t.rho_samples t.radius_samples (lengths_of t) → (build r i t).lists ≡ t
unfolding build
build_refused r i t h = keeps _ (built r i t) t h

pub table_laws : TableLaws
table_laws = record {
  each_replaced = λ r i row t full e l k m. each r i row t full (lengths_fit r _ e) l k;
  each_row = each_row;
  rows_decide = rows_decide;
  lengths_replaced = λ r i row t full e l. replaced_lengths r i row t full (lengths_fit r _ e) l;
  nodes_kept = nodes_kept;
  lengths_kept = lengths_kept;
  nodes_decide = nodes_decide;
  lengths_of_with = lengths_of_with;
  row_of_with = row_of_with;
  started_with = started_with;
  replaced_on = replaced_on;
  lengths_of_table = lengths_of_table;
  row_of_table = row_of_table;
  started_is = started_is;
  built_on = built_on;
  nodes_pass = nodes_pass;
  never_6 = never_6;
  nodes_begin = nodes_begin;
  albedo_range = albedo_range;
  start_refused = start_refused;
  build_refused = build_refused;
}
