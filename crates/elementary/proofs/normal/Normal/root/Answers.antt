-- `Normal::root` meets its contract: `Scaled` says what n is, and what the root of n is to the root of a.
use Rattle.std.proofs.Common.{◌≡◌, ◌%◌, ◌*◌, ◌^◌, ◌<◌, ◌≤◌, sym, ap, ◌∙◌, ℕ, subst, arith}
use lib.Ieee.{binary32}
use Rattle.elementary.specs.Root.{nearest_root}
use Rattle.elementary.proofs.Patterns.{no_nan}
use Rattle.elementary.proofs.Squares.{nearest_lt}
use Rattle.elementary.proofs.Scaled.{shift, scaled, under, shifted, root_bits}
use Rattle.elementary.proofs.normal.Normal.root.Goals as goal

pub invariant_of-root-clause-few : goal.invariant_of-root-clause-few
invariant_of-root-clause-few c = let n = c.args.self in rw (shifted n.q n.size n.low n.high) (under n.q n.size n.low n.high)

-- what `nearest_root` gives
module _ (q size : ℕ) (low : 2 ^ 23 ≤ q) (high : q < 2 ^ 24) (r : ℕ) (e : r ≡ nearest_root (q * 2 ^ shift size % 2 ^ 64)) where
  root_at : r ≡ nearest_root (scaled q size)
  root_at = e ∙ ap nearest_root (shifted q size low high)

  root_lt : r < 2 ^ 24
  root_lt = subst (λ (n : ℕ). n < 2 ^ 24) (sym root_at) (nearest_lt (scaled q size))

pub overflow_cast-result : goal.overflow_cast-result
overflow_cast-result c = let n = c.args.self in omega (arith, root_lt n.q n.size n.low n.high _ c.root-r.ensures)

pub overflow_add-result-2 : goal.overflow_add-result-2
overflow_add-result-2 c = let n = c.args.self in omega (arith, root_lt n.q n.size n.low n.high _ c.root-r.ensures)

pub float_from_bits-result : goal.float_from_bits-result
float_from_bits-result c = let n = c.args.self in no_nan binary32 _ (omega (arith, root_lt n.q n.size n.low n.high _ c.root-r.ensures))

pub returns : goal.returns
returns c = λ a N. let n = c.args.self in root_bits a n.q n.size N c.root-r.result (root_at n.q n.size n.low n.high _ c.root-r.ensures)
