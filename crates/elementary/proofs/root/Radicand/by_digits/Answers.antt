-- `Radicand::by_digits` meets its contract: the weight of the digit is half of 2 ^ d (`half_shifted`), and the digit is set, or not, as the test says (`turn`).
use Rattle.std.proofs.Common.{◌≡◌, ℕ, ◌+◌, ◌-◌, ◌*◌, ◌%◌, ◌^◌, ◌<◌, ◌≤◌, Bool, cond, ltb, sym, ap, ◌∙◌, arith, lt-ltb, le-ltb}
use Rattle.elementary.specs.Root.{digits, nearest_root}
use Rattle.elementary.proofs.Lengths.{Half, half_shifted}
use Rattle.elementary.proofs.Squares.{turn, none}
use Rattle.elementary.proofs.root.Radicand.by_digits.Goals as goal

-- the weight of the digit, as the machine has it
abbrev unit : ℕ → ℕ
unit d = 1 * 2 ^ (d - 1) % 2 ^ 64

module _ (g d : ℕ) (some : 0 < d) (few : d ≤ 24) where
  halves : Half d (unit d)
  halves = half_shifted d 64 some (omega arith)

  next : (n : ℕ) {b : Bool} → ltb ((2 * (g + unit d) - 1) * (2 * (g + unit d) - 1)) (4 * n) ≡ b → digits d n g ≡ nearest_root n → digits (d - 1) n (cond b (g + unit d) g) ≡ nearest_root n
  next n t e = sym (turn d n g (unit d) some halves.is t) ∙ e

pub loop-d-preserved-then-odd-self : goal.loop-d-preserved-then-odd-self
loop-d-preserved-then-odd-self c =
    let I = c.loop-d.invariant in
    let h = halves c.loop-d.g c.loop-d.d c.loop-d-test.true c.loop-d.auto.d in
    (omega (arith, h.twice, h.is), next c.loop-d.g c.loop-d.d c.loop-d-test.true c.loop-d.auto.d c.args.self.n (lt-ltb _ _ c.if-odd-self.true) I.1)

pub loop-d-preserved : goal.loop-d-preserved
loop-d-preserved c =
    let I = c.loop-d.invariant in
    let h = halves c.loop-d.g c.loop-d.d c.loop-d-test.true c.loop-d.auto.d in
    (omega (arith, h.twice, h.is), next c.loop-d.g c.loop-d.d c.loop-d-test.true c.loop-d.auto.d c.args.self.n (le-ltb _ _ c.if-odd-self.false) I.1)

pub returns : goal.returns
returns c =
    let z : 0 ≡ c.loop-d.d = omega arith in
    sym (none c.args.self.n c.loop-d.g) ∙ ap (λ (k : ℕ). digits k c.args.self.n c.loop-d.g) z ∙ c.loop-d.invariant.1
