-- What the checks of a table say: where a call's number is 0 every check of it has passed, so the sizes are in range, the lists have the record's lengths, the nodes are accepted and the row exists. Assumes nothing.
use mathlib.Core.Path.{◌≡◌, sym, ◌∙◌}
use mathlib.Core.Bool.{true, ◌&&◌}
use mathlib.Core.List.{List}
use Prim.Native.Nat.{ℕ, ◌*◌, ◌≤◌, ◌<◌}
use native.Mathlib.Omega.{arith}
use borrow.Author.Tests.{ltb-true, eqb-true}
use lib.Dec.{ltb, eqb}
use lib.Ieee.{Float}
use Rattle.answers.proofs.Refusals.{first_last, first_none, passed}
use Rattle.interpolation.specs.Nodes.{nodes_ok}
use Rattle.interpolation.specs.Checks.{max_rows, max_radii, check6}
use Rattle.interpolation.proofs.Finite.{and_left, and_right}
use Rattle.interpolation.proofs.Refusals.{rows_in_range, radii_in_range, nodes_accepted}
use Rattle.table.specs.Checks.{check5, check7, record_number, start_number, table_number, build_number}
use Rattle.table.specs.declared.parameters.Record.{Record}
use Rattle.table.specs.declared.parameters.Lengths.{Lengths}

-- ---- the record

pub record InRange (r : Record) : Type 0 where
  pub rows : (2 ≤ r.n) × (r.n ≤ max_rows)
  pub radii : (2 ≤ r.m) × (r.m ≤ max_radii)

pub record_in_range : (r : Record) → record_number r ≡ 0 → InRange r
unfolding record_number
record_in_range r h =
    let a = first_none _ _ h in
    record { rows = rows_in_range _ a.0; radii = radii_in_range _ (first_none _ _ a.1).0 }

-- ---- the lengths

pub record Fits (r : Record) (l : Lengths) : Type 0 where
  pub rho_fits : l.rho_samples ≡ r.n
  pub radius_fits : l.radius_samples ≡ r.m
  pub profile_fits : l.profile ≡ r.n * r.m
  pub eff_fits : l.rho_eff ≡ r.n
  pub cdf_fits : l.profile_cdf ≡ r.n * r.m
  pub marks_fit : l.marks ≡ r.n

pub lengths_fit : (r : Record) (l : Lengths) → check5 r l ≡ 0 → Fits r l
unfolding check5
lengths_fit r l h =
    let rho = eqb l.rho_samples r.n in
    let radii = eqb l.radius_samples r.m in
    let profile = eqb l.profile (r.n * r.m) in
    let eff = eqb l.rho_eff r.n in
    let cdf = eqb l.profile_cdf (r.n * r.m) in
    let marks = eqb l.marks r.n in
    let e = passed 5 (rho && radii && profile && eff && cdf && marks) (omega arith) h in
    let d = and_left (rho && radii && profile && eff && cdf) marks e in
    let c = and_left (rho && radii && profile && eff) cdf d in
    let b = and_left (rho && radii && profile) eff c in
    let a = and_left (rho && radii) profile b in
    record {
      rho_fits = eqb-true _ _ (and_left rho radii a);
      radius_fits = eqb-true _ _ (and_right rho radii a);
      profile_fits = eqb-true _ _ (and_right (rho && radii) profile b);
      eff_fits = eqb-true _ _ (and_right (rho && radii && profile) eff c);
      cdf_fits = eqb-true _ _ (and_right (rho && radii && profile && eff) cdf d);
      marks_fit = eqb-true _ _ (and_right (rho && radii && profile && eff && cdf) marks e);
    }

-- ---- what the number 0 says of each call

pub record Started (r : Record) (l : Lengths) : Type 0 where
  pub range : InRange r
  pub fits : Fits r l

pub start_accepted : (r : Record) (l : Lengths) → start_number r l ≡ 0 → Started r l
unfolding start_number
start_accepted r l h =
    let a = first_none _ _ h in
    record { range = record_in_range r a.0; fits = lengths_fit r l (sym (first_last _) ∙ a.1) }

pub record TableAccepted (r : Record) (rho radii : List Float) (l : Lengths) : Type 0 where
  pub sizes : Started r l
  pub rho_ok : nodes_ok rho ≡ true
  pub radii_ok : nodes_ok radii ≡ true

pub table_accepted : (r : Record) (rho radii : List Float) (l : Lengths) → table_number r rho radii l ≡ 0 → TableAccepted r rho radii l
unfolding table_number
table_accepted r rho radii l h =
    let a = first_none _ _ h in
    let b = first_none (check6 rho) _ a.1 in
    record { sizes = start_accepted r l a.0; rho_ok = nodes_accepted rho b.0; radii_ok = nodes_accepted radii (sym (first_last (check6 radii)) ∙ b.1) }

pub record BuildAccepted (r : Record) (i : ℕ) (rho radii : List Float) (l : Lengths) : Type 0 where
  pub table : TableAccepted r rho radii l
  pub row : i < r.n

row_exists : (r : Record) (i : ℕ) → check7 r i ≡ 0 → i < r.n
unfolding check7
row_exists r i h = ltb-true i r.n (passed 7 (ltb i r.n) (omega arith) h)

pub build_accepted : (r : Record) (i : ℕ) (rho radii : List Float) (l : Lengths) → build_number r i rho radii l ≡ 0 → BuildAccepted r i rho radii l
unfolding build_number
build_accepted r i rho radii l h =
    let a = first_none _ _ h in
    record { table = table_accepted r rho radii l a.0; row = row_exists r i (sym (first_last (check7 r i)) ∙ a.1) }
