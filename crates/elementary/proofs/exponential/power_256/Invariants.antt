-- the lanes of q, squared as often as is left, are those of p squared eight times
use Rattle.std.proofs.Common.{◌≡◌, map, ◌-◌}
use Rattle.elementary.specs.Exponential.{squared}
use Rattle.elementary.proofs.exponential.power_256.Given as goal

abbrev pub invariant-loop : goal.invariant-loop
invariant-loop l = map (squared (8 - l.counter)) l.q ≡ map (squared 8) l.fn.p
