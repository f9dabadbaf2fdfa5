-- A build, and a set's table, list by list: what `replaced` with the row that building gives leaves in each list (`built_is`), and what each list of the table of a set holds at each row (`table_of_is`). Assumes nothing.
use mathlib.Core.Path.{◌≡◌, refl, ap, fun_ext}
use mathlib.Core.Bool.{Bool, true, false, cond}
use Prim.Native.Nat.{ℕ, ◌*◌}
use lib.ListN.{get_or, replicate, set}
use lib.Ieee.{Float, nan}
use Rattle.elementary.specs.Notation.{lit}
use Rattle.elementary.specs.Lists.{list_of}
use Rattle.table.specs.Parameters.{Lists}
use Rattle.table.specs.Nodes.{rho_samples, radius_samples}
use Rattle.table.specs.Row.{profile_row, cdf_row, effective_albedo, put}
use Rattle.table.specs.TableRow.{TableRow, built_row, empty_row, replaced}
use Rattle.table.specs.Building.{built}
use Rattle.table.specs.Sets.{Rows, rows_from, table_with, table_of}
use Rattle.table.specs.declared.parameters.Record.{Record}

pub built_is : (r : Record) (i : ℕ) (t : Lists)
    → built r i t
    ≡ (let rho = get_or t.rho_samples i nan in
    let radii = t.radius_samples in
    record {
      rho_samples = t.rho_samples;
      radius_samples = t.radius_samples;
      profile = put (i * r.m) (profile_row r rho radii) t.profile;
      rho_eff = set t.rho_eff i (effective_albedo r rho radii);
      profile_cdf = put (i * r.m) (cdf_row r rho radii) t.profile_cdf;
      marks = set t.marks i 1;
    })
unfolding built replaced built_row
built_is r i t = refl

module _ (r : Record) (k : ℕ) where
  abbrev rho : Float
  rho = get_or (rho_samples r) k nan

  abbrev row : Bool → TableRow
  row b = cond b (built_row r k (rho_samples r) (radius_samples r)) (empty_row r)

  of_profile : (b : Bool) → (row b).profile ≡ cond b (profile_row r rho (radius_samples r)) (replicate r.m (lit 0))
  unfolding built_row empty_row
  of_profile true = refl
  of_profile false = refl

  of_cdf : (b : Bool) → (row b).cdf ≡ cond b (cdf_row r rho (radius_samples r)) (replicate r.m (lit 0))
  unfolding built_row empty_row
  of_cdf true = refl
  of_cdf false = refl

  of_albedo : (b : Bool) → (row b).albedo ≡ cond b (effective_albedo r rho (radius_samples r)) (lit 0)
  unfolding built_row empty_row
  of_albedo true = refl
  of_albedo false = refl

  of_mark : (b : Bool) → (row b).mark ≡ cond b 1 0
  unfolding built_row empty_row
  of_mark true = refl
  of_mark false = refl

pub table_of_is : (r : Record) (S : Rows)
    → table_of r S
    ≡ (let radii = radius_samples r in
    let rho : ℕ → Float = λ k. get_or (rho_samples r) k nan in
    let zeros = replicate r.m (lit 0) in
    record {
      rho_samples = rho_samples r;
      radius_samples = radius_samples r;
      profile = rows_from 0 r.n (λ k. cond (S k) (profile_row r (rho k) radii) zeros);
      rho_eff = list_of r.n (λ k. cond (S k) (effective_albedo r (rho k) radii) (lit 0));
      profile_cdf = rows_from 0 r.n (λ k. cond (S k) (cdf_row r (rho k) radii) zeros);
      marks = list_of r.n (λ k. cond (S k) 1 0);
    })
unfolding table_of table_with
table_of_is r S = λ x. record {
  rho_samples = rho_samples r;
  radius_samples = radius_samples r;
  profile = ap (rows_from 0 r.n) (fun_ext (λ k. of_profile r k (S k))) x;
  rho_eff = ap (list_of r.n) (fun_ext (λ k. of_albedo r k (S k))) x;
  profile_cdf = ap (rows_from 0 r.n) (fun_ext (λ k. of_cdf r k (S k))) x;
  marks = ap (list_of r.n) (fun_ext (λ k. of_mark r k (S k))) x;
}
