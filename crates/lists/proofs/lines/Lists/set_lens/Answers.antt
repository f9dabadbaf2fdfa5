-- `set_lens` meets its contract: at the loop's end the names or the lengths have come to theirs, and nothing more is set.
use Rattle.std.proofs.Common.{inl, inr, ◌∙◌}
use Rattle.lists.proofs.Lens.{no_names_set, no_numbers_set}
use Rattle.lists.proofs.lines.Lists.set_lens.Goals as goal

pub returns : goal.returns
returns c =
    let at = c.loop-name.name-iterator in
    elim c.in-None.ensures.steps [ inl e ↦ no_names_set at.a.rest.now at.b.rest.now c.loop-name.self e.1.0 | inr e ↦ no_numbers_set at.a.rest.now at.b.rest.now c.loop-name.self e.1.0 ] ∙ c.loop-name.invariant
