-- How a question is answered: by its checks before 11; then 11 unless all needed rows are marked; then what it answers once they are built (`refused_before`, `row_missing`, `rows_built_lem`).
-- So 11 is given exactly if a needed row is not marked (`posed_missing`), and since marks belong to rows a query that depends on the rows that it needs alone has one answer on tables alike in these (`posed_same`). Assumes nothing.
use mathlib.Core.Path.{◌≡◌, refl, sym, ap, ◌∙◌}
use mathlib.Core.Bool.{Bool, true, false, true≢false, false≢true}
use mathlib.Core.Logic.{◌↔◌}
use mathlib.Core.List.{List, [], ◌∷◌}
use Prim.Native.Nat.{ℕ, zero, suc, ◌<◌}
use native.Mathlib.Omega.{arith}
use lib.Dec.{eqb}
use Rattle.answers.specs.Answer.{Answer, refusal, answered}
use Rattle.answers.specs.Checks.{first_of}
use Rattle.table.specs.Parameters.{Lists}
use Rattle.table.specs.TableRow.{TableRow, row_at}
use Rattle.table.specs.Sets.{Rows}
use Rattle.table.specs.declared.parameters.Record.{Record}
use Rattle.bssrdf.specs.Needed.{is_marked, all_marked, among}
use Rattle.bssrdf.specs.Checks.{check11}
use Rattle.bssrdf.specs.Question.{Question, posed}
use Rattle.bssrdf.specs.Laws.{Alike, Missing, Supposed, Asks}
use Rattle.bssrdf.proofs.NeededRows.{all_marked_lem, some_missing, marked_same}

-- ---- one question

before : (marks : List ℕ) (k : ℕ) (rows : List ℕ) (a : Answer) → 0 < k → posed marks (record { order = k; rows = rows; built = a }) ≡ refusal k
unfolding posed first_of answered
before marks zero rows a h = absurd (omega arith)
before marks (suc k) rows a h = refl

module _ (marks : List ℕ) (q : Question) where
  pub refused_before : 0 < q.order → posed marks q ≡ refusal q.order
  refused_before h = before marks q.order q.rows q.built h

  pub row_missing : q.order ≡ 0 → all_marked marks q.rows ≡ false → posed marks q ≡ refusal 11
  unfolding posed check11 first_of answered
  row_missing h e = rw (h, e)

  pub rows_built_lem : q.order ≡ 0 → all_marked marks q.rows ≡ true → posed marks q ≡ q.built
  unfolding posed check11 first_of answered
  rows_built_lem h e = rw (h, e)

  -- 11 is given exactly if a needed row is not marked, where 11 is not what is answered once they are
  pub posed_missing : q.order ≡ 0 → (all_marked marks q.rows ≡ true → q.built ≡ refusal 11 → ⊥) → (posed marks q ≡ refusal 11) ↔ Missing marks q.rows
  posed_missing o other = go (all_marked marks q.rows) refl
    where
      go : (b : Bool) → all_marked marks q.rows ≡ b → (posed marks q ≡ refusal 11) ↔ Missing marks q.rows
      go true e = (λ n. absurd (other e (sym (rows_built_lem o e) ∙ n)), λ m. absurd (true≢false (sym (all_marked_lem marks q.rows m.0 e m.1) ∙ m.2)))
      go false e = (λ n. some_missing marks q.rows e, λ m. row_missing o e)

  -- a value was refused by no check
  pub in_order : (posed marks q).refused ≡ false → (q.order ≡ 0) × (all_marked marks q.rows ≡ true)
  in_order v = go q.order refl (all_marked marks q.rows) refl
    where
      refuted : (k : ℕ) → posed marks q ≡ refusal k → ⊥
      refuted k e = false≢true (sym v ∙ ap (λ (a : Answer). a.refused) e)

      go : (k : ℕ) → q.order ≡ k → (b : Bool) → all_marked marks q.rows ≡ b → (q.order ≡ 0) × (all_marked marks q.rows ≡ true)
      go (suc k) o b e = absurd (refuted q.order (refused_before (omega arith)))
      go zero o false e = absurd (refuted 11 (row_missing o e))
      go zero o true e = (o, e)

-- ---- a query on two tables

-- tables that are alike in some rows are so in fewer
pub alike_in : {r : Record} {S₁ S₂ : Rows} {s t : Lists} → ((k : ℕ) → S₁ k ≡ true → S₂ k ≡ true) → Alike r S₂ s t → Alike r S₁ s t
alike_in fewer a = record { rho = a.rho; radii = a.radii; lengths = a.lengths; row = λ k l h. a.row k l (fewer k h) }

-- after the checks before 11
after_checks : (p q : ℕ) (ks ls : List ℕ) (a b : Answer) → p ≡ q → (p ≡ 0 → answered (first_of ks) a ≡ answered (first_of ls) b) → answered (first_of (p ∷ ks)) a ≡ answered (first_of (q ∷ ls)) b
unfolding first_of answered
after_checks zero q ks ls a b e h = rw (sym e) (h refl)
after_checks (suc p) q ks ls a b e h = rw (sym e)

marks_same : (r : Record) (rows : List ℕ) (s t : Lists) → ((k : ℕ) → among rows k ≡ true → k < r.n) → Alike r (among rows) s t → check11 s.marks rows ≡ check11 t.marks rows
unfolding check11 is_marked row_at
marks_same r rows s t exist a = rw (marked_same s.marks t.marks rows (λ k l. ap (λ (x : TableRow). eqb x.mark 1) (a.row k (exist k l) l)))

pub posed_same : (r : Record) (held : Bool) (q : Lists → Question) → Asks r held q → (s t : Lists) → Supposed held s → Alike r (among (q s).rows) s t → posed s.marks (q s) ≡ posed t.marks (q t)
unfolding posed
posed_same r held q asks s t H a =
    after_checks (q s).order (q t).order _ _ _ _ (asks.order_same s t (alike_in (λ k h. absurd (false≢true h)) a))
    (λ o i.
    answered (first_of ((marks_same r (q s).rows s t (asks.rows_exist s o) a ∙ ap (check11 t.marks) (asks.rows_same s t H o a)) i ∷ [])) (asks.built_same s t H o a i))
