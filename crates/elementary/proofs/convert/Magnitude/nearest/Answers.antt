-- `Magnitude::nearest` meets its contract: the sum and the shift are a division (`closest_sum`), with half a unit as the machine has it.
use Rattle.std.proofs.Common.{◌≡◌, ℕ, ◌+◌, ◌-◌, ◌*◌, ◌/◌, ◌%◌, ◌^◌, subst, arith}
use lib.Ieee.Nearest.{closest}
use Rattle.elementary.proofs.Lengths.{Half, half_shifted}
use Rattle.elementary.proofs.Rounding.{closest_sum}
use Rattle.elementary.proofs.convert.Magnitude.nearest.Goals as goal

pub returns : goal.returns
returns c =
    let q = c.args.self.q in
    let half = 1 * 2 ^ (c.args.d - 1) % 2 ^ 64 in
    let halves : Half c.args.d half = half_shifted c.args.d 64 c.requires.some (omega arith) in
    subst (λ (u : ℕ). (q + (half - 1) + q / u % 2) / u ≡ closest q u) halves.twice (closest_sum q half halves.some)
