-- `are_marked` meets its contract: each step asks for the row of its weight, and the rows of nonzero weight are marked where all four are ready.
use Rattle.std.proofs.Common.{arith, ◌∙◌, sym}
use Rattle.interpolation.specs.Weights.{offset_of}
use Rattle.interpolation.proofs.Rows.{row_is}
use Rattle.bssrdf.proofs.Marks.{AlsoReady, four_marked}
use Rattle.bssrdf.proofs.needed.are_marked.Goals as goal

pub returns : goal.returns
returns c =
    let a = c.args in
    let o = offset_of a.p.interval in
    c.over_four.ensures (AlsoReady a.marks.now o a.p.four) (λ k node v w l e p. grind (arith, row_is)) ∙ sym (four_marked a.marks.now o a.p.four)
