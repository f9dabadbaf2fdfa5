-- The rows of a set's table: row k is built there exactly if the set has it, and two sets that have it have the same row.
-- So a query with a value on the first's table, which needs rows of the first set alone, reads the same on the second's, where those rows are the same; and it is refused with 11 exactly if it needs a row that the set has not.
-- Assumes the laws of queries.
use mathlib.Core.Path.{◌≡◌, refl, sym, ap, ◌∙◌}
use mathlib.Core.Logic.{◌↔◌}
use mathlib.Core.Bool.{Bool, true, false, cond}
use Prim.Native.Nat.{ℕ, ◌<◌}
use lib.Dec.{eqb}
use Rattle.answers.specs.Answer.{refusal}
use Rattle.table.specs.Parameters.{lengths_of}
use Rattle.table.specs.Nodes.{rho_samples, radius_samples}
use Rattle.table.specs.TableRow.{TableRow, row_at, built_row, empty_row}
use Rattle.table.specs.Sets.{Rows, table_with, table_of}
use Rattle.table.specs.declared.parameters.Record.{Record}
use Rattle.table.proofs.Refusals.{lengths_fit}
use Rattle.table.proofs.TableLaws.{table_laws}
use Rattle.bssrdf.specs.Needed.{is_marked, among}
use Rattle.bssrdf.specs.Laws.{Alike, QueryLaws}
use Rattle.bssrdf.proofs.NeededRows.{all_marked_lem}
use Rattle.workstations.specs.Calls.{Query, question, ask, needed_rows, order_number, step}
use Rattle.workstations.specs.Joint.{rows_of, Includes, IsValue, Allows, Agreement, RowMissing}
use Rattle.workstations.proofs.Tallying.{after_is}
use Rattle.workstations.proofs.StartingNodes.{nodes_hold}
use Rattle.workstations.proofs.Asking.{asks, ask_more}

-- ---- the rows of a set's table

module _ (r : Record) where
  -- a row is marked built exactly if the set has it
  marked_is : (S : Rows) (k : ℕ) → k < r.n → is_marked (table_of r S).marks k ≡ S k
  unfolding is_marked row_at built_row empty_row
  marked_is S k l = ap (λ (x : TableRow). eqb x.mark 1) (table_laws.row_of_table r S k l) ∙ go (S k)
    where
      go : (b : Bool) → eqb (cond b (built_row r k (rho_samples r) (radius_samples r)) (empty_row r)).mark 1 ≡ b
      go true = refl
      go false = refl

  -- a row of both sets is the same on both tables
  row_same : (S₁ S₂ : Rows) (k : ℕ) → k < r.n → S₁ k ≡ true → S₂ k ≡ true → row_at r (table_of r S₁) k ≡ row_at r (table_of r S₂) k
  row_same S₁ S₂ k l p q = table_laws.row_of_table r S₁ k l ∙ rw (p, q) refl ∙ sym (table_laws.row_of_table r S₂ k l)

  lengths_same : (S₁ S₂ : Rows) → lengths_of (table_of r S₁) ≡ lengths_of (table_of r S₂)
  lengths_same S₁ S₂ =
      let f = lengths_fit r _ (table_laws.lengths_of_table r S₁) in
      let g = lengths_fit r _ (table_laws.lengths_of_table r S₂) in
      λ x. record {
        rho_samples = (f.rho_fits ∙ sym g.rho_fits) x;
        radius_samples = (f.radius_fits ∙ sym g.radius_fits) x;
        profile = (f.profile_fits ∙ sym g.profile_fits) x;
        rho_eff = (f.eff_fits ∙ sym g.eff_fits) x;
        profile_cdf = (f.cdf_fits ∙ sym g.cdf_fits) x;
        marks = (f.marks_fit ∙ sym g.marks_fit) x;
      }

module _ (laws : QueryLaws) (r : Record) where
  -- ---- a query on a set's table

  -- a needed row is marked there exactly if the set has it, so 11 is given exactly if the set has not one of them
  pub missing_on : (S : Rows) (q : Query) → order_number r (table_of r S) q ≡ 0
      → (ask r (table_of r S) q ≡ refusal 11) ↔ ((k : ℕ) × (among (needed_rows r (table_of r S) q) k ≡ true) × (S k ≡ false))
  unfolding ask
  missing_on S q o =
      let e = laws.missing _ (question r q (table_of r S)) o ((asks laws r q).not_11 (table_of r S) o) in
      let is : (k : ℕ) → among (needed_rows r (table_of r S) q) k ≡ true → is_marked (table_of r S).marks k ≡ S k = λ k n. marked_is r S k ((asks laws r q).rows_exist (table_of r S) o k n) in (
        λ h. let m = e.0 h in (m.0, m.1, sym (is m.0 m.1) ∙ m.2),
        λ m. e.1 (m.0, m.1, is m.0 m.1 ∙ m.2),
      )

  -- where a value is given the needed rows are in the set, and the tables of two sets, the second including the first, are alike in them
  alike : (S₁ S₂ : Rows) → Includes S₁ S₂ → (q : Query) → IsValue (ask r (table_of r S₁) q) → Alike r (among (needed_rows r (table_of r S₁) q)) (table_of r S₁) (table_of r S₂)
  unfolding ask table_of table_with
  alike S₁ S₂ up q v = record {
    rho = refl;
    radii = refl;
    lengths = lengths_same r S₁ S₂;
    row = λ k l n.
        let in_first = sym (marked_is r S₁ k l) ∙ all_marked_lem _ _ k (laws.in_order _ _ v).1 n in
        row_same r S₁ S₂ k l in_first (up k in_first);
  }

  agree_on : (S₁ S₂ : Rows) → Includes S₁ S₂ → (q p : Query) → Allows q p → IsValue (ask r (table_of r S₁) q) → ask r (table_of r S₂) p ≡ ask r (table_of r S₁) q
  unfolding ask
  agree_on S₁ S₂ up q p al v =
      let e : ask r (table_of r S₁) q ≡ ask r (table_of r S₂) q = laws.same r true (question r q) (asks laws r q) (table_of r S₁) (table_of r S₂) (nodes_hold r S₁) (alike S₁ S₂ up q v) in
      ask_more laws r (table_of r S₂) q p al (rw (sym e) v) ∙ sym e

-- ---- the two statements

pub agreement : QueryLaws → Agreement
unfolding step
agreement laws r w₁ w₂ up q p al = rw (after_is r w₁, after_is r w₂) (λ v. (refl, agree_on laws r (rows_of r w₁) (rows_of r w₂) up q p al v))

pub row_missing : QueryLaws → RowMissing
unfolding step
row_missing laws r w q = rw (after_is r w) (missing_on laws r (rows_of r w) q)
