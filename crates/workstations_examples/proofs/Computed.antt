-- The worked examples, by computation: where both sides are closed terms they compute to the same value. Lengths and nodes are not checked by it: since the record is in range (`in_range`), a query's number before 11 is that of its arguments, and a build's answer goes by its row number (`Progressing`).
-- Two examples read entries of the profile, and of row 2 alone, whose values `Row2` has; the others read none, so none is computed. The longer list is the tally's (`is_tally`), whatever the lists held before.
use mathlib.Core.Path.{◌≡◌, refl, sym, ap, ◌∙◌, fun_ext}
use mathlib.Core.Bool.{Bool, true, false, cond, false≢true}
use mathlib.Core.List.{List, [], ◌∷◌}
use Prim.Native.Nat.{ℕ, zero, suc, ◌<◌}
use native.Mathlib.Omega.{arith}
use lib.Dec.{eqb}
use lib.Ieee.{binary32, is_nan, add, sub, mul, div, neg, lt, le, eq, of_int, of_bits}
use lib.Ieee.Bits.{of_bits-fits}
use Rattle.elementary.specs.Notation.{lit}
use Rattle.elementary.specs.Lists.{sum_to, from, list_of}
use Rattle.elementary.specs.Convert.{rounded}
use Rattle.elementary.specs.Root.{digits, root_of, sqrt}
use Rattle.elementary.specs.Units.{mag}
use Rattle.elementary.specs.Sign.{abs, max0}
use Rattle.elementary.specs.Exponential.{terms, squared, series, exp}
use Rattle.answers.specs.Answer.{Answer, answered, refusal}
use Rattle.answers.specs.Refusal.{told}
use Rattle.answers.specs.Checks.{first_of}
use Rattle.interpolation.specs.Interval.{bisect, find_interval, at_most, node_interval}
use Rattle.interpolation.specs.Nodes.{finite}
use Rattle.interpolation.specs.Weights.{within, first_part, last_part, four_at, offset_of, catmull_rom_weights}
use Rattle.interpolation.specs.Blend.{row_of, add_row, interpolate, blend_at_most, blend_interval}
use Rattle.interpolation.specs.Integral.{segment_integral, running_sum, cdf_of}
use Rattle.interpolation.specs.Slope.{width, slope_before, slope_after}
use Rattle.interpolation.specs.Solve.{first_guess, bounded_by, integral_at, value_at, stops, round_of, solve_from, solve}
use Rattle.interpolation.specs.Sample as Sample
use Rattle.interpolation.specs.Sample.{segment_at, draw_from, sample_catmull_rom_2d}
use Rattle.interpolation.specs.Checks.{max_rows, max_radii, max_allowance, check1, check2, check9, check10}
use Rattle.scattering.specs.Literals.{half}
use Rattle.scattering.specs.Clamp.{clamp_t}
use Rattle.scattering.specs.Spectrum.{uniform, channel, plus, times, clamp, has_nans}
use Rattle.scattering.specs.Checks.{check4}
use Rattle.scattering.specs.Exitance.{spectrum_value}
use Rattle.scattering.specs.declared.spectrum.RGBEnum.TheVariants.{Red, Green}
use Rattle.starting_nodes.specs.Nodes.{radius_sample, rho_sample}
use Rattle.table.specs.Nodes.{radius_samples, rho_samples}
use Rattle.table.specs.Parameters.{RecordHolds, Lists, lengths_of, done}
use Rattle.table.specs.Checks.{check3, check5, record_number, start_number}
use Rattle.table.specs.Row.{profile_row, cdf_row}
use Rattle.table.specs.Starting.{start}
use Rattle.table.specs.TableRow.{built_row, empty_row}
use Rattle.table.specs.Sets.{no_rows, rows_from, table_with, table_of}
use Rattle.bssrdf.specs.Coefficients.{sigma_t, albedo, rho, optical}
use Rattle.bssrdf.specs.Axes.{optical_radius, albedo_weights, radius_weights}
use Rattle.bssrdf.specs.Needed.{row_if, weighted_rows, rows_of, rows_of_both, pdf_rows, sr_rows, sample_rows, is_marked, all_marked}
use Rattle.bssrdf.specs.Checks.{coefficient_ok, check8, check11, check12}
use Rattle.bssrdf.specs.Question.{posed}
use Rattle.bssrdf.specs.Radiance.{eval_profile, add_product, add_cell, tensor, cancelled, channel_sr, channel_at, unclamped, sr_question}
use Rattle.bssrdf.specs.Density.{density_of, density_at, pdf_question}
use Rattle.bssrdf.specs.Drawing.{drawn_value, divided, divided_value, drawn_at, sample_question}
use Rattle.bssrdf.proofs.QueryLaws.{query_laws}
use Rattle.workstations.specs.Calls.{Query, Sr, PdfSr, SampleSr, Call, Build, Ask, argument_number, question, step}
use Rattle.workstations.specs.Tally.{StartOf, rows_built, tallied}
use Rattle.workstations_examples.specs.Examples.{three, white, middle, two_toned, near, only_row2, table_of_row2, mixed, mixed_answers, every_row, starting, OnRow2, Examples}
use Rattle.workstations.specs.Joint.{table_after, IsValue}
use Rattle.workstations.proofs.Tallying.{is_tally}
use Rattle.workstations.proofs.Progressing.{asked, query_checks, asked_on, set_by, answers_by, set_is, answers_are, progress_from}
use Rattle.workstations.proofs.Batches.{run_append}
use Rattle.workstations_examples.proofs.Row2.{row, table_by, table_is}

-- ---- what computes

in_range : record_number three ≡ 0
unfolding record_number first_of check1 check2 check3 check4 max_rows max_radii lt le neg of_bits
in_range = refl

-- a query's answer on the table of row 2, by the checks of its arguments
on_2 : (q : Query) → (step three table_of_row2 (Ask q)).answer ≡ asked three table_of_row2 q
unfolding step
on_2 = asked_on three in_range only_row2

is_value : (q : Query) → IsValue (asked three table_of_row2 q) → IsValue (step three table_of_row2 (Ask q)).answer
is_value q v = ap (λ (a : Answer). a.refused) (on_2 q) ∙ v

on_row_2 : OnRow2
unfolding posed argument_number question answered first_of check8 check9 check10 check11 check12 coefficient_ok finite max_allowance sr_question unclamped channel_at channel_sr clamp times has_nans clamp_t pdf_question density_at density_of sample_question drawn_at sample_rows all_marked is_marked sr_rows pdf_rows rows_of_both rows_of weighted_rows row_if albedo_weights radius_weights optical_radius optical rho albedo sigma_t plus channel catmull_rom_weights within node_interval find_interval bisect at_most four_at first_part last_part offset_of row_of table_of table_with built_row empty_row rows_from profile_row cdf_row cdf_of rho_samples rho_sample radius_samples radius_sample list_of from exp series terms squared rounded is_nan lt le eq neg sub add mul div of_int of_bits
on_row_2 = record {
  white_needs = refl;
  white_in_order = query_checks three in_range only_row2 (Sr white near) ∙ refl;
  white_passes = refl;
  white_density = is_value (PdfSr Red white near) refl;
  middle_needs = refl;
  middle_refused = on_2 (Sr middle near) ∙ refl;
  red_needs = (refl, refl);
  green_needs = (refl, refl);
  red_density = is_value (PdfSr Red two_toned near) refl;
  green_refused = on_2 (PdfSr Green two_toned near) ∙ refl;
  two_toned_refused = on_2 (Sr two_toned near) ∙ refl;
}

mixed_by : done ∷ answers_by three no_rows mixed ≡ mixed_answers
unfolding on_row_2 answers_by
mixed_by = refl

mixed_tallied : tallied (StartOf three) mixed ≡ mixed_answers
unfolding tallied
mixed_tallied = ap (λ (xs : List Answer). done ∷ xs) (answers_are three in_range no_rows mixed) ∙ mixed_by

-- row 2 added once, and twice
once : (b : Bool) → cond b true false ≡ b
once true = refl
once false = refl

twice : (b : Bool) → cond b true (cond b true false) ≡ b
twice true = refl
twice false = refl

one_row : (k : ℕ) → rows_built (StartOf three) (Build 2 ∷ []) k ≡ only_row2 k
unfolding rows_built set_by
one_row k = rw (set_is three in_range) (once (eqb k 2))

mixed_rows : (k : ℕ) → rows_built (StartOf three) mixed k ≡ only_row2 k
unfolding rows_built set_by
mixed_rows k = rw (set_is three in_range) (twice (eqb k 2))

-- ---- what follows

accepted : (t : Lists) → check5 three (lengths_of t) ≡ 0 → (start three t).answer ≡ done
unfolding start answered start_number first_of
accepted t h = rw (in_range, h)

-- what is read from row 2, on the table by its row
read_radiance : asked three (table_by row) (Sr white near) ≡ spectrum_value (uniform (lit 0x4138_a29c))
unfolding on_row_2 tensor add_cell add_product eval_profile cancelled
read_radiance = refl

read_drawn : asked three (table_by row) (SampleSr Red white half 1) ≡ drawn_value (lit 0x3ae7_b46a) 1
unfolding on_row_2 told sample_catmull_rom_2d draw_from Sample.draw segment_at Sample.drawn interpolate add_row blend_interval blend_at_most width slope_before slope_after solve solve_from round_of bounded_by first_guess integral_at value_at stops divided divided_value segment_integral running_sum sum_to abs max0 sqrt root_of digits mag
read_drawn = refl

by_row : (q : Query) → (step three table_of_row2 (Ask q)).answer ≡ asked three (table_by row) q
by_row q = on_2 q ∙ ap (λ (t : Lists). asked three t q) table_is

white_radiance : (step three table_of_row2 (Ask (Sr white near))).answer ≡ spectrum_value (uniform (lit 0x4138_a29c))
white_radiance = by_row (Sr white near) ∙ read_radiance

-- a list that builds row 2 alone leaves its table
table_after_lem : (calls : List Call) → ((k : ℕ) → rows_built (StartOf three) calls k ≡ only_row2 k) → (lent : Lists) (ok : (start three lent).answer ≡ done) → table_after three (starting lent ok calls) ≡ table_of_row2
table_after_lem calls h lent ok = (is_tally three (starting lent ok calls)).1 ∙ ap (table_of three) (fun_ext h)

-- ---- every row built

every_row_built : (k : ℕ) → k < 3 → rows_built (StartOf three) every_row k ≡ true
unfolding rows_built set_by
every_row_built k l = rw (set_is three in_range) (go k l)
  where
    go : (k : ℕ) → k < 3 → cond (eqb k 1) true (cond (eqb k 2) true (cond (eqb k 0) true false)) ≡ true
    go zero l = refl
    go (suc zero) l = refl
    go (suc (suc zero)) l = refl
    go (suc (suc (suc k))) l = absurd (omega arith)

holds : RecordHolds three
holds = record { g = of_bits-fits binary32 0; eta = of_bits-fits binary32 0x4000_0000 }

never_missing : (lent : Lists) (ok : (start three lent).answer ≡ done) (q : Query) → argument_number three q ≡ 0
    → (step three (table_after three (starting lent ok every_row)) (Ask q)).answer ≡ refusal 11 → ⊥
never_missing lent ok q e =
    let p = progress_from query_laws in
    let w = starting lent ok every_row in
    p.none_missing three holds w every_row_built q (p.by_arguments three holds w q ∙ e)

pub examples_hold : Examples
examples_hold = record {
  accepted = accepted;
  one_row = one_row;
  one_table = table_after_lem (Build 2 ∷ []) one_row;
  on_row_2 = on_row_2;
  white_not_missing = λ e. false≢true (ap (λ (a : Answer). a.refused) (sym white_radiance ∙ e));
  white_radiance = white_radiance;
  white_drawn = by_row (SampleSr Red white half 1) ∙ read_drawn;
  mixed_answers_lem = λ lent ok. (is_tally three (starting lent ok mixed)).0 ∙ mixed_tallied;
  mixed_table = table_after_lem mixed mixed_rows;
  every_row_built = every_row_built;
  never_missing = never_missing;
  run_append = run_append;
}
