-- `sample_sr` meets its contract: an accepted table has the cells of each row of nonzero weight.
use Rattle.std.proofs.Common.{◌*◌, length, sym, ap, ◌∙◌}
use Rattle.answers.specs.Refusal.{number_of}
use Rattle.bssrdf.proofs.Cells.{in_rows}
use Rattle.bssrdf.proofs.TwoParts.{rows_passed}
use Rattle.bssrdf.proofs.drawing.sample_sr.Goals as goal

pub invariant_of-values : goal.invariant_of-values
unfolding number_of
invariant_of-values c =
    let p = rows_passed _ _ _ (sym c.in_ok-rho_nodes.ensures.number) in
    record {
      in_table = in_rows _ _ _ _ _ _ c.place-rho.ensures.interval c.place-rho.ensures.four c.in_ok-rho_nodes.rho_nodes.some (p.profile_fits ∙ ap (λ l. length l.now * c.args.t.record.m) (sym c.in_ok-rho_nodes.ensures.same));
    }
