-- the rounds that are left give what the whole loop gives
use Rattle.std.proofs.Common.{◌≡◌, ◌-◌}
use Rattle.interpolation.specs.Solve.{solve_from, solve}
use Rattle.interpolation.proofs.solve.Segment.solve.Given as goal

abbrev pub invariant-loop-made : goal.invariant-loop-made
invariant-loop-made l = solve_from l.self (l.allowance - l.made) l.made l.from ≡ solve l.self l.allowance
