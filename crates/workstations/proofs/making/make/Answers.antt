-- `make` meets its contract: each turn makes one call more.
use Rattle.std.proofs.Common.{refl, sym, ◌∙◌, ◌<◌, length, arith, rules}
use Rattle.std.proofs.lemmas.List.{drop-set-lt}
use Rattle.workstations.proofs.Batches.{made_none, made_more}
use Rattle.workstations.proofs.making.make.Goals as goal

pub loop-j-init : goal.loop-j-init
loop-j-init c = record { made = made_none; rest = refl; same = search rules }

pub loop-j-preserved : goal.loop-j-preserved
loop-j-preserved c =
    let inv = c.loop-j.invariant in
    let call_left : c.loop-j.j < length c.args.calls.now = omega arith in
    record {
      made = made_more _ _ inv.made call_left (omega arith) (sym inv.same.0) c.step.ensures.effect;
      rest = drop-set-lt _ _ _ _ c.loop-j-test.true ∙ inv.rest;
      same = search rules;
    }
