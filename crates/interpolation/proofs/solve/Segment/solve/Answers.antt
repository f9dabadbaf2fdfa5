-- a round that is not the last leaves the rest of the rounds to do
use Rattle.std.proofs.Common.{◌≡◌, suc, ◌+◌, ◌-◌, arith}
use Rattle.interpolation.specs.Solve.{solve_from}
use Rattle.interpolation.proofs.solve.Segment.solve.Goals as goal

pub loop-made-preserved : goal.loop-made-preserved
unfolding solve_from
loop-made-preserved c =
    let more : c.args.allowance - c.loop-made.made ≡ suc (c.args.allowance - (c.loop-made.made + 1)) = omega arith in
    rw (← c.loop-made.invariant, more, ← c.in-Next.ensures)
