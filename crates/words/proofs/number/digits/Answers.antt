-- n has fewer digits than the word, so one more neither overflows the product nor the sum.
use Rattle.std.proofs.Common.{arith}
use Rattle.words.proofs.Digits.{one_more}
use Rattle.words.proofs.number.digits.Goals as goal

pub overflow_mul-n : goal.overflow_mul-n
overflow_mul-n g c = omega (arith, one_more _ _ _ _ _ c.loop-c.invariant.1 c.in_ok-d.ensures.below c.loop-c-test.true)

pub overflow_add-n : goal.overflow_add-n
overflow_add-n g c = omega (arith, one_more _ _ _ _ _ c.loop-c.invariant.1 c.in_ok-d.ensures.below c.loop-c-test.true)
