-- The inverse of a segment's integral, by Newton's method and bisection (specification, section 9.8): the end of `sample_catmull_rom_2d`, in its order of operations. A round is one evaluation of `f_hat`, and an allowance bounds their number.
-- Literals: 0x3f800000 is 1, 0x40000000 is 2, 0x40400000 is 3, 0x3f000000 is 0.5, 0x3e800000 is 0.25 and 0x358637bd is 1e-6.
use Rattle.std.specs.Prelude.{ℕ, zero, suc, ◌+◌, Bool, cond, true, Float, Option, Some, None}
use Rattle.std.specs.Float.Ieee.{lt, le, eq, neg}
use Rattle.elementary.specs.Notation.{◌⊕◌, ◌⊖◌, ◌⊗◌, ◌⊘◌, lit}
use Rattle.elementary.specs.Sign.{abs, max0}
use Rattle.elementary.specs.Root.{sqrt}
use Rattle.interpolation.specs.declared.solve.Segment.{Segment}
use Rattle.interpolation.specs.declared.solve.Bracket.{Bracket}
use Rattle.interpolation.specs.declared.solve.Round.{Round}
use Rattle.interpolation.specs.declared.solve.Round.TheVariants.{Last, Next}
use Rattle.interpolation.specs.declared.solve.Solution.{Solution}

-- the first t, by sampling a linear interpolant
unfoldable pub first_guess : Segment → Float
first_guess s =
    cond (eq s.f0 s.f1) (s.u ⊘ s.f0)
    ((s.f0 ⊖ sqrt (max0 (s.f0 ⊗ s.f0 ⊕ lit 0x40000000 ⊗ s.u ⊗ (s.f1 ⊖ s.f0)))) ⊘ (s.f0 ⊖ s.f1))

-- t, or the middle of a and b where t does not lie between them
unfoldable pub bounded_by : Float → Float → Float → Float
bounded_by t a b =
    let middle = lit 0x3f000000 ⊗ (a ⊕ b) in
    cond (le a t) (cond (le t b) t middle) middle

-- `f_hat`: the integral of the segment up to t
unfoldable pub integral_at : Segment → Float → Float
integral_at s t =
    t ⊗ (s.f0 ⊕ t ⊗ (lit 0x3f000000 ⊗ s.d0 ⊕ t ⊗ (lit 0x3f800000 ⊘ lit 0x40400000 ⊗ (neg (lit 0x40000000) ⊗ s.d0 ⊖ s.d1) ⊕ s.f1 ⊖ s.f0
    ⊕ t ⊗ (lit 0x3e800000 ⊗ (s.d0 ⊕ s.d1) ⊕ lit 0x3f000000 ⊗ (s.f0 ⊖ s.f1)))))

-- `fhat`: its value at t
unfoldable pub value_at : Segment → Float → Float
value_at s t =
    s.f0 ⊕ t ⊗ (s.d0 ⊕ t ⊗ (neg (lit 0x40000000) ⊗ s.d0 ⊖ s.d1 ⊕ lit 0x40400000 ⊗ (s.f1 ⊖ s.f0) ⊕ t ⊗ (s.d0 ⊕ s.d1 ⊕ lit 0x40000000 ⊗ (s.f0 ⊖ s.f1))))

-- whether the loop ends, for the difference d from the target and the bounds a and b
unfoldable pub stops : Float → Float → Float → Bool
stops d a b = cond (lt (abs d) (lit 0x358637bd)) true (lt (b ⊖ a) (lit 0x358637bd))

-- one round: where it evaluates and what it finds there, if it is the last; or where the next round begins
unfoldable pub round_of : Segment → Bracket → Round
round_of s from =
    let t = bounded_by from.t from.a from.b in
    let d = integral_at s t ⊖ s.u in
    let v = value_at s t in
    let below = lt d (lit 0) in
    cond (stops d from.a from.b) (Last t v) (Next (record { t = t ⊖ d ⊘ v; a = cond below t from.a; b = cond below from.b t }))

-- the solution of the last of so many rounds, or what the rounds after it find
abbrev pub found_or : Round → ℕ → (Bracket → Option Solution) → Option Solution
found_or (Last t v) rounds after = Some (record { t = t; value = v; rounds = rounds })
found_or (Next from) rounds after = after from

-- the rounds from where one begins on, `left` at most, after `made`; none where none of them is the last
unfoldable pub solve_from : Segment → ℕ → ℕ → Bracket → Option Solution
solve_from s zero made from = None
solve_from s (suc left) made from = found_or (round_of s from) (made + 1) (solve_from s left (made + 1))

-- the whole loop, which begins with the bounds 0 and 1
unfoldable pub solve : Segment → ℕ → Option Solution
solve s allowance = solve_from s allowance 0 (record { t = first_guess s; a = lit 0; b = lit 0x3f800000 })
