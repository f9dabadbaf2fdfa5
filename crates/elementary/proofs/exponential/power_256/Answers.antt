-- a squaring of both lanes is the squaring of each (`squares_pair`)
use Rattle.std.proofs.Common.{◌≡◌, ◌∙◌, ◌+◌, ◌-◌, arith}
use Rattle.elementary.proofs.Pairs.{squares_pair}
use Rattle.elementary.proofs.exponential.power_256.Goals as goal

pub loop-preserved : goal.loop-preserved
loop-preserved c =
    let left : 8 - (c.loop.counter + 1) ≡ 8 - c.loop.counter - 1 = omega arith in
    rw left (squares_pair (8 - c.loop.counter) c.loop.q (omega arith) c.loop.auto.q.0 ∙ c.loop.invariant)
