-- The joint claim. A list of calls leaves the table of the rows that it built and is answered on it (`Tallying`), so what the claim says of two workstations holds of the tables of two sets (`Agreeing`). Sets with the same members are equal, and so their tables.
-- Assumes the laws of queries.
use mathlib.Core.Path.{◌≡◌, refl, sym, ap, ◌∙◌, fun_ext}
use mathlib.Core.Logic.{◌↔◌}
use mathlib.Core.Bool.{Bool, true, false}
use Prim.Native.Nat.{ℕ, zero, suc}
use Rattle.answers.specs.Answer.{answered, written}
use Rattle.table.specs.Parameters.{Lists, done}
use Rattle.table.specs.Starting.{started, start}
use Rattle.table.specs.Building.{built, build}
use Rattle.table.specs.Sets.{table_of}
use Rattle.table.specs.declared.parameters.Record.{Record}
use Rattle.bssrdf.specs.Laws.{QueryLaws}
use Rattle.workstations.specs.Calls.{Call, Build, Ask, step}
use Rattle.workstations.specs.Joint.{rows_of, SameTables, Keeps, Joint}
use Rattle.workstations.proofs.Tallying.{after_is, is_tally}
use Rattle.workstations.proofs.Agreeing.{agreement, row_missing}

same_bool : (a b : Bool) → (a ≡ true ↔ b ≡ true) → a ≡ b
same_bool true b e = sym (e.0 refl)
same_bool false true e = e.1 refl
same_bool false false e = refl

same_tables : SameTables
same_tables r w₁ w₂ e = after_is r w₁ ∙ ap (table_of r) (fun_ext (λ k. same_bool (rows_of r w₁ k) (rows_of r w₂ k) (e k))) ∙ sym (after_is r w₂)

refused_keeps : (k : ℕ) (new old : Lists) → (answered k done).refused ≡ true → written k new old ≡ old
unfolding answered written
refused_keeps zero new old h = cc
refused_keeps (suc k) new old h = refl

step_keeps : (r : Record) (t : Lists) (c : Call) → (step r t c).answer.refused ≡ true → (step r t c).lists ≡ t
unfolding step build
step_keeps r t (Build i) h = refused_keeps _ (built r i t) t h
step_keeps r t (Ask q) h = refl

keeps : Keeps
unfolding start
keeps r t = (refused_keeps _ (started r) t, step_keeps r t)

pub joint_from : QueryLaws → Joint
joint_from laws = record { is_tally = is_tally; agreement = agreement laws; same_tables = same_tables; row_missing = row_missing laws; keeps = keeps }
