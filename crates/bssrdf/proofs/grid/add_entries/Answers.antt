-- `add_entries` meets its contract: its steps are those of one row, where its weight is not zero.
use Rattle.std.proofs.Common.{◌+◌, ◌-◌, ◌*◌, get_or, arith}
use lib.Ieee.{nan}
use Rattle.interpolation.specs.Weights.{weight_at, offset_of}
use Rattle.interpolation.specs.Blend.{row_of}
use Rattle.bssrdf.specs.Density.{add_term}
use Rattle.bssrdf.proofs.Cells.{reading}
use Rattle.bssrdf.proofs.grid.add_entries.Goals as goal

pub returns : goal.returns
returns c =
    let a = c.args in
    rw c.if-p.false
    (c.over_four.ensures (λ k. add_term a.p (weight_at a.radius.four k) (get_or a.profile.now ((a.row - 1) * a.m + row_of (offset_of a.radius.interval) k) nan)) (λ k node v w l e p. grind (arith, reading)))
