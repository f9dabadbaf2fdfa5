-- One more number is read in a turn: it stands behind those so far, and one word fewer is left.
use Rattle.std.proofs.Common.{◌∙◌}
use Rattle.std.proofs.lemmas.List.{length-set}
use Rattle.words.proofs.InTurn.{one_more, one_word}
use Rattle.words.proofs.line.Line.numbers.Goals as goal

pub loop-x-preserved : goal.loop-x-preserved
loop-x-preserved g c =
    let kept = c.loop-x.invariant in
    let read = c.in_ok-x.ensures in (
      length-set _ _ _ ∙ kept.0,
      one_more g.T.Number.of_word _ _ _ _ _ _ _ c.loop-x-test.true kept.0 read.number read.rest kept.1,
      one_word _ _ _ _ _ c.loop-x-test.true read.rest kept.2,
    )
