-- The checks before 11 in two parts, as `pdf_sr` and `sample_sr` make them: sizes and albedo nodes, and then the rest. They give the number that all in a row give (`query_parts`, `draw_parts`), so a question is refused by the first part or by the second (`by_first`, `by_second`), and a part that passes says what the rest of the query asks for (`rows_passed`, `radii_passed`). Assumes nothing.
use mathlib.Core.Path.{◌≡◌, refl, sym, ap, ◌∙◌}
use mathlib.Core.Bool.{true}
use mathlib.Core.List.{List, [], ◌∷◌}
use Prim.Native.Nat.{ℕ, zero, suc, ◌*◌, ◌≤◌}
use native.Mathlib.Omega.{arith}
use lib.Ieee.{Float}
use Rattle.answers.specs.Checks.{first_of}
use Rattle.answers.specs.Refusal.{number}
use Rattle.answers.specs.declared.refusal.Refusal.{Refusal}
use Rattle.answers.proofs.Refusals.{first_here, first_next, first_last, first_none}
use Rattle.answers.proofs.Results.{number_above_0, checking}
use Rattle.answers.specs.Answer.{refusal}
use Rattle.interpolation.specs.Checks.{max_rows, max_radii, check6, check9, check10}
use Rattle.interpolation.specs.Nodes.{nodes_ok}
use Rattle.interpolation.proofs.Refusals.{nodes_accepted}
use Rattle.table.specs.Checks.{start_number, table_number}
use Rattle.table.specs.Parameters.{Lists, lengths_of}
use Rattle.table.specs.declared.parameters.Record.{Record}
use Rattle.table.specs.declared.parameters.Lengths.{Lengths}
use Rattle.table.proofs.Refusals.{Started, start_accepted}
use Rattle.bssrdf.specs.Checks.{check8, query_number, draw_number}
use Rattle.bssrdf.specs.Question.{Question, posed}
use Rattle.bssrdf.specs.declared.coefficients.Coefficients.{Coefficients}
use Rattle.bssrdf.proofs.Answering.{refused_before}

-- ---- any checks in two parts

three_and_one : (s a b c : ℕ) → first_of (first_of (s ∷ a ∷ b ∷ []) ∷ c ∷ []) ≡ first_of (first_of (s ∷ a ∷ []) ∷ first_of (b ∷ c ∷ []) ∷ [])
unfolding first_of
three_and_one (suc s) a b c = refl
three_and_one zero (suc a) b c = refl
three_and_one zero zero (suc b) c = refl
three_and_one zero zero zero (suc c) = refl
three_and_one zero zero zero zero = refl

two_and_two : (p q d e : ℕ) → first_of (first_of (p ∷ q ∷ []) ∷ d ∷ e ∷ []) ≡ first_of (p ∷ first_of (q ∷ d ∷ e ∷ []) ∷ [])
unfolding first_of
two_and_two (suc p) q d e = refl
two_and_two zero (suc q) d e = refl
two_and_two zero zero (suc d) e = refl
two_and_two zero zero zero (suc e) = refl
two_and_two zero zero zero zero = refl

-- a question is refused by the first part, or by the second where the first passes
module _ (marks : List ℕ) (q : Question) (a b : ℕ) (parts : q.order ≡ first_of (a ∷ b ∷ [])) where
  pub by_first : (e : Refusal) → number e ≡ a → refusal (number e) ≡ posed marks q
  by_first e h =
      let p = number_above_0 e in
      let o : q.order ≡ number e = parts ∙ first_here a _ (omega arith) ∙ sym h in
      sym (refused_before marks q (omega arith) ∙ ap refusal o)

  pub by_second : (e : Refusal) → a ≡ 0 → number e ≡ b → refusal (number e) ≡ posed marks q
  by_second e z h =
      let p = number_above_0 e in
      let o : q.order ≡ number e = parts ∙ first_next a _ (omega arith) ∙ first_last b ∙ sym h in
      sym (refused_before marks q (omega arith) ∙ ap refusal o)

-- and passes where both do
pub both_pass : {w p q : ℕ} → w ≡ first_of (p ∷ q ∷ []) → p ≡ 0 → q ≡ 0 → w ≡ 0
unfolding first_of
both_pass parts z y = rw (parts, z, y)

-- ---- those of a query

abbrev pub rows_part : Record → Lists → ℕ
rows_part r t = first_of (start_number r (lengths_of t) ∷ check6 t.rho_samples ∷ [])

abbrev pub radii_part : Lists → Coefficients → ℕ
radii_part t c = first_of (check6 t.radius_samples ∷ check8 c ∷ [])

abbrev pub draw_part : Lists → Coefficients → Float → ℕ → ℕ
draw_part t c u allowance = first_of (radii_part t c ∷ check9 u ∷ check10 allowance ∷ [])

pub query_parts : (r : Record) (t : Lists) (c : Coefficients) → query_number r t c ≡ first_of (rows_part r t ∷ radii_part t c ∷ [])
unfolding query_number table_number
query_parts r t c = three_and_one _ _ _ _

pub draw_parts : (r : Record) (t : Lists) (c : Coefficients) (u : Float) (allowance : ℕ) → draw_number r t c u allowance ≡ first_of (rows_part r t ∷ draw_part t c u allowance ∷ [])
unfolding draw_number
draw_parts r t c u allowance = ap (λ (k : ℕ). first_of (k ∷ check9 u ∷ check10 allowance ∷ [])) (query_parts r t c) ∙ two_and_two (rows_part r t) (radii_part t c) _ _

-- ---- what each part says

pub record RowsPassed (r : Record) (l : Lengths) (nodes : List Float) : Type 0 where
  pub started : Started r l
  pub ok : nodes_ok nodes ≡ true
  pub two_rows : 2 ≤ l.rho_samples
  pub two_radii : 2 ≤ l.radius_samples
  pub few_rows : l.rho_samples ≤ 0x8000_0000
  pub few_radii : l.radius_samples ≤ 0x8000_0000
  pub profile_fits : l.profile ≡ l.rho_samples * r.m
  pub cdf_fits : l.profile_cdf ≡ l.rho_samples * r.m
  pub eff_fits : l.rho_eff ≡ l.rho_samples * 1

pub rows_passed : (r : Record) (l : Lengths) (nodes : List Float) → first_of (start_number r l ∷ check6 nodes ∷ []) ≡ 0 → RowsPassed r l nodes
unfolding max_rows max_radii
rows_passed r l nodes h =
    let a = first_none _ _ h in
    let s = start_accepted r l a.0 in
    record {
      started = s;
      ok = nodes_accepted _ (sym (first_last _) ∙ a.1);
      two_rows = omega (arith, s.fits.rho_fits, s.range.rows.0);
      two_radii = omega (arith, s.fits.radius_fits, s.range.radii.0);
      few_rows = omega (arith, s.fits.rho_fits, s.range.rows.1);
      few_radii = omega (arith, s.fits.radius_fits, s.range.radii.1);
      profile_fits = rw s.fits.rho_fits s.fits.profile_fits;
      cdf_fits = rw s.fits.rho_fits s.fits.cdf_fits;
      eff_fits = omega (arith, s.fits.rho_fits, s.fits.eff_fits);
    }

pub record RadiiPassed (nodes : List Float) (c : Coefficients) : Type 0 where
  pub ok : nodes_ok nodes ≡ true
  pub coefficients : check8 c ≡ 0

pub radii_passed : (nodes : List Float) (c : Coefficients) → first_of (check6 nodes ∷ check8 c ∷ []) ≡ 0 → RadiiPassed nodes c
radii_passed nodes c h = let a = first_none _ _ h in record { ok = nodes_accepted _ a.0; coefficients = sym (first_last _) ∙ a.1 }

pub ruleset refusing = (checking, start_accepted)

pub ruleset passing = (rows_passed, radii_passed)
