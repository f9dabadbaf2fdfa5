-- eight numbers more, and at the end all of them
use Rattle.std.proofs.Common.{◌≡◌, ◌*◌, ◌+◌, arith, ◌∙◌}
use Rattle.interpolation.proofs.Counting.{count_eight, count_all}
use Rattle.interpolation.proofs.eights.count_below.Goals as goal

pub loop-k-preserved : goal.loop-k-preserved
loop-k-preserved g c =
    let few = c.requires.few _ _ c.eight-count.ensures in (
      omega (arith, c.loop-k.invariant.0, few),
      λ p h.
          let e : 8 * (c.loop-k.k + 1) ≡ 8 * c.loop-k.k + 8 = omega arith in
          rw (e, count_eight p (8 * c.loop-k.k), c.loop-k.invariant.1 p h, h _ _ (omega arith) c.eight-count.ensures),
    )

pub returns-clause-counted : goal.returns-clause-counted
returns-clause-counted g c =
    λ p h k.
    let e : c.loop-i.i ≡ c.args.n = omega arith in
    c.loop-i.invariant.1 p h k ∙ rw e (count_all p c.args.n)
