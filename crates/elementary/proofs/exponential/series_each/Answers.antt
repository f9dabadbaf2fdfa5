-- an odd number's last element is one store more
use Rattle.std.proofs.Common.{◌≡◌, ℕ, ◌-◌, ◌*◌, length, get_or, ap, ◌∙◌, arith}
use lib.Ieee.{nan}
use Rattle.elementary.specs.Exponential.{series}
use Rattle.elementary.proofs.Mapped.{fills_map}
use Rattle.elementary.proofs.Filled.{fills_more}
use Rattle.elementary.proofs.exponential.series_each.Goals as goal

pub returns-then-n-eq1 : goal.returns-then-n-eq1
returns-then-n-eq1 c =
    let xs = c.args.xs.now in
    let last : length xs - 1 ≡ 2 * c.loop-i.i = omega arith in
    rw last (fills_map series xs (omega arith) (fills_more (omega arith) (c.series.ensures ∙ ap (λ (k : ℕ). series (get_or xs k nan)) last) c.loop-i.invariant))
