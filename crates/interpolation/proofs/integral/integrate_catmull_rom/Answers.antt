-- `integrate_catmull_rom` meets its contract: each turn adds a segment and writes an element, and the loop ends at the last node.
use Rattle.std.proofs.Common.{◌≡◌, ◌+◌, ◌-◌, length, refl, add-one, arith}
use Rattle.elementary.specs.Notation.{◌⊕◌}
use Rattle.elementary.specs.Lists.{sum_to}
use Rattle.elementary.proofs.Filled.{fills_none, fills_more, fills_all}
use Rattle.interpolation.specs.Integral.{segment_integral, running_sum, integrate_catmull_rom, cdf_of}
use Rattle.interpolation.proofs.integral.integrate_catmull_rom.Goals as goal

pub loop-i-init : goal.loop-i-init
unfolding sum_to
loop-i-init c = (refl, fills_more c.requires.some refl (fills_none _ c.requires.lengths.1))

pub loop-i-preserved : goal.loop-i-preserved
unfolding sum_to
loop-i-preserved c =
    let f = segment_integral c.args.x.now c.args.values.now in
    let next : c.loop-i.sum ⊕ c.segment_integral-sum.result ≡ sum_to f (c.loop-i.i + 1) = rw (add-one, c.segment_integral-sum.ensures, c.loop-i.invariant.0) in
    (next, fills_more (omega arith) next c.loop-i.invariant.1)

pub returns : goal.returns
unfolding integrate_catmull_rom cdf_of running_sum
returns c =
    let all : c.loop-i.i ≡ length c.args.x.now - 1 = omega (arith, c.loop-i.invariant.1.within) in
    (rw all at c.loop-i.invariant.0, fills_all (omega arith) c.loop-i.invariant.1)
