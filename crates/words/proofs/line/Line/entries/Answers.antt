-- One more entry is read in a turn: it is the last, and the list is whole, or it stands behind those so far.
use Rattle.std.proofs.Common.{true, false, length, ◌∙◌, ap, ◌+◌}
use Rattle.std.proofs.lemmas.List.{length_push}
use Rattle.words.specs.Line.{left, entry}
use Rattle.words.proofs.InTurn.{further, the_last, nothing_left}
use Rattle.words.proofs.line.Line.entries.Goals as goal

pub returns-then-is_none : goal.returns-then-is_none
returns-then-is_none g c =
    let read = c.in_ok-entry.ensures in
    the_last (entry g.T.Entry.of_bits) c.loop.counter 64 (left c.args.self) (left c.loop.self) (left c.entry.new.self) c.loop.all.items c.push.new.self.items c.in_ok-entry.field-0 c.loop-test.true read.entry read.rest (nothing_left c.entry.new.self.rest false c.if-is_none.ensures) c.push.ensures.items c.loop.invariant.1

pub loop-preserved : goal.loop-preserved
loop-preserved g c =
    let read = c.in_ok-entry.ensures in (
      ap length c.push.ensures.items ∙ length_push c.loop.all.items c.in_ok-entry.field-0 ∙ ap (λ n. n + 1) c.loop.invariant.0,
      further (entry g.T.Entry.of_bits) c.loop.counter 64 (left c.args.self) (left c.loop.self) (left c.entry.new.self) c.loop.all.items c.push.new.self.items c.in_ok-entry.field-0 c.loop-test.true read.entry read.rest (nothing_left c.entry.new.self.rest true c.if-is_none.ensures) c.push.ensures.items c.loop.invariant.1,
    )
