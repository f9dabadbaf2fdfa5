-- `interpolate` meets its contract: its steps are the rows of the definition.
use Rattle.std.proofs.Common.{arith}
use Rattle.interpolation.specs.Weights.{offset_of, weight_at}
use Rattle.interpolation.specs.Blend.{row_of, add_row, interpolate}
use Rattle.interpolation.proofs.Rows.{reading}
use Rattle.interpolation.proofs.blend.Blend.interpolate.Goals as goal

pub returns : goal.returns
unfolding interpolate
returns c =
    let a = c.args in
    let i = a.self.place.interval in
    let four = a.self.place.four in
    c.over_four.ensures (λ k. add_row a.self.table.now a.self.m (row_of (offset_of i) k) a.col (weight_at four k)) (λ k node v w l e p. grind (arith, reading))
