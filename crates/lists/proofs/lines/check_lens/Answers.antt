-- `check_lens` meets its contract: at the loop's end the names or the lengths have come to theirs, and no more is asked.
use Rattle.std.proofs.Common.{inl, inr, ◌∙◌}
use Rattle.lists.proofs.Lens.{no_names_within, no_numbers_within}
use Rattle.lists.proofs.lines.check_lens.Goals as goal

pub returns : goal.returns
returns c =
    let at = c.loop-name.name-iterator in
    elim c.in-None.ensures.steps [ inl e ↦ no_names_within at.a.rest.now at.b.rest.now e.1.0 | inr e ↦ no_numbers_within at.a.rest.now at.b.rest.now e.1.0 ] ∙ c.loop-name.invariant
