-- A draw that ends does not depend on the allowance, if that covers the rounds made: the rounds are the same ones, and the loop stops at the first that is the last.
-- So an answer under one allowance is the answer under every larger one (`solve_more`, `sample_more`). The rounds made are at least one, and at most the allowance (`rounds_made`). Assumes nothing.
use mathlib.Core.Path.{◌≡◌, refl, ap}
use mathlib.Core.Bool.{true, false, true≢false}
use mathlib.Core.List.{List, [], ◌∷◌}
use Prim.Native.Nat.{ℕ, zero, suc, ◌+◌, ◌-◌, ◌≤◌, ◌<◌}
use native.Mathlib.Nat.{le_trans, le_refl, zero-add}
use native.Mathlib.Omega.{arith}
use lib.Arith.{le-zero}
use lib.ListN.{length}
use lib.Ieee.{Float}
use Rattle.elementary.specs.Notation.{lit, ◌⊗◌}
use Rattle.interpolation.specs.Solve.{round_of, first_guess, found_or, solve_from, solve}
use Rattle.interpolation.specs.Weights.{catmull_rom_weights}
use Rattle.interpolation.specs.Sample.{segment_at, drawn, draw, some_drawn, draw_from, sample_catmull_rom_2d}
use Rattle.interpolation.specs.Blend.{interpolate, blend_interval}
use Rattle.answers.specs.Checks.{first_of}
use Rattle.interpolation.specs.Checks.{max_allowance, check6, check9, check10}
use Rattle.answers.specs.Answer.{refusal}
use Rattle.interpolation.specs.Own.{sample_told, sizes_number, sample_number, sample2d}
use Rattle.interpolation.specs.declared.solve.Segment.{Segment}
use Rattle.interpolation.specs.declared.solve.Bracket.{Bracket}
use Rattle.interpolation.specs.declared.solve.Round.{Round}
use Rattle.interpolation.specs.declared.solve.Round.TheVariants.{Last, Next}
use Rattle.interpolation.specs.declared.solve.Solution.{Solution}
use Rattle.interpolation.specs.declared.weights.Weights.{Weights}
use Rattle.interpolation.specs.declared.sample.Sample.{Sample}
use Rattle.answers.specs.Refusal.{number, told}
use Rattle.answers.specs.declared.refusal.Refusal.{Refusal}
use Rattle.answers.specs.declared.refusal.Refusal.TheVariants.{Exhausted}
use Rattle.std.specs.Prelude.{Option, Some, None, Result, Err}
use Rattle.answers.proofs.Refusals.{first_none, not_refused, answers}
use Rattle.interpolation.proofs.Refusals.{allowance_in_range, allowance_passes}
use Rattle.interpolation.proofs.Draws.{offered_numbered}

-- what a solution found says of the rounds from where one begins on, after `made`
pub record Ended (s : Segment) (left made : ℕ) (from : Bracket) (found : Solution) : Type 0 where
  pub some : made < found.rounds
  pub enough : found.rounds ≤ made + left
  pub same : (other : ℕ) → found.rounds ≤ made + other → solve_from s other made from ≡ Some found

-- one round more, by whether it is the last
module _ (s : Segment) (left made : ℕ) (from : Bracket) (found : Solution) where
  stopped : (t v : Float) → round_of s from ≡ Last t v → Some (record { t = t; value = v; rounds = made + 1 }) ≡ Some found → Ended s (suc left) made from found
  unfolding solve_from
  stopped t v h e = let n : made + 1 ≡ found.rounds = cc e in record { some = omega arith; enough = omega arith; same = same }
    where
      same : (other : ℕ) → found.rounds ≤ made + other → solve_from s other made from ≡ Some found
      same zero l = let n : made + 1 ≡ found.rounds = cc e in absurd (omega arith)
      same (suc other) l = rw h e

  went_on : (next : Bracket) → round_of s from ≡ Next next → Ended s left (made + 1) next found → Ended s (suc left) made from found
  unfolding solve_from
  went_on next h later =
      let more = later.some in
      let most = later.enough in
      record { some = omega arith; enough = omega arith; same = same }
    where
      same : (other : ℕ) → found.rounds ≤ made + other → solve_from s other made from ≡ Some found
      same zero l = let more = later.some in absurd (omega arith)
      same (suc other) l = rw h (later.same other (omega arith))

by_round : {E : Type 0} (r : Round) (rounds : ℕ) (after : Bracket → Option Solution) (found : Solution)
    → ((t v : Float) → r ≡ Last t v → Some (record { t = t; value = v; rounds = rounds }) ≡ Some found → E) → ((next : Bracket) → r ≡ Next next → after next ≡ Some found → E) → found_or r rounds after ≡ Some found → E
by_round (Last t v) rounds after found f g e = f t v refl e
by_round (Next next) rounds after found f g e = g next refl e

ended : (s : Segment) (left made : ℕ) (from : Bracket) (found : Solution) → solve_from s left made from ≡ Some found → Ended s left made from found
unfolding solve_from
ended s zero made from found e = let clash : true ≡ false = cc e in absurd (true≢false clash)
ended s (suc left) made from found e =
    by_round (round_of s from) (made + 1) (solve_from s left (made + 1)) found (stopped s left made from found)
    (λ next h k. went_on s left made from found next h (ended s left (made + 1) next found k)) e

-- ---- the whole loop

pub rounds_made : (s : Segment) (allowance : ℕ) (found : Solution) → solve s allowance ≡ Some found → (1 ≤ found.rounds) × (found.rounds ≤ allowance)
unfolding solve
rounds_made s allowance found e =
    let d = ended s allowance 0 (record { t = first_guess s; a = lit 0; b = lit 0x3f800000 }) found e in
    (d.some, rw zero-add at d.enough)

-- any allowance that covers the rounds made
pub solve_covered : (s : Segment) (allowance other : ℕ) (found : Solution) → solve s allowance ≡ Some found → found.rounds ≤ other → solve s other ≡ Some found
unfolding solve
solve_covered s allowance other found e l =
    (ended s allowance 0 (record { t = first_guess s; a = lit 0; b = lit 0x3f800000 }) found e).same other (rw zero-add l)

pub solve_more : (s : Segment) (allowance other : ℕ) (found : Solution) → solve s allowance ≡ Some found → allowance ≤ other → solve s other ≡ Some found
solve_more s allowance other found e l = solve_covered s allowance other found e (le_trans (rounds_made s allowance found e).1 l)

-- ---- the draw

-- of a segment's end
drawn_more : (nodes2 : List Float) (i : ℕ) (maximum : Float) (s : Segment) (allowance other : ℕ) (found : Option Solution) → solve s allowance ≡ found → (some_drawn (drawn nodes2 i maximum found) ≡ Err Exhausted → ⊥)
    → allowance ≤ other → some_drawn (drawn nodes2 i maximum (solve s other)) ≡ some_drawn (drawn nodes2 i maximum found)
unfolding drawn
drawn_more nodes2 i maximum s allowance other (Some found) e h l = rw (solve_more s allowance other found e l)
drawn_more nodes2 i maximum s allowance other None e h l = absurd (h refl)

-- of blended rows
draw_more : (nodes2 values cdf : List Float) (w : Option Weights) (u : Float) (allowance other : ℕ) → (draw_from nodes2 values cdf w u allowance ≡ Err Exhausted → ⊥) → allowance ≤ other
    → draw_from nodes2 values cdf w u other ≡ draw_from nodes2 values cdf w u allowance
unfolding draw_from draw
draw_more nodes2 values cdf (Some w) u allowance other h l =
    let m = length nodes2 in
    let maximum = interpolate cdf m w.offset w.four (m - 1) in
    let target = u ⊗ maximum in
    let i = blend_interval cdf m w.offset w.four target in
    let segment = segment_at nodes2 values cdf w.offset w.four target i in
    drawn_more nodes2 i maximum segment allowance other (solve segment allowance) refl h l
draw_more nodes2 values cdf None u allowance other h l = refl

-- what is not refused under one allowance is the same under every larger one
pub sample_more : (nodes1 nodes2 values cdf : List Float) (alpha u : Float) (allowance other : ℕ)
    → (sample_catmull_rom_2d nodes1 nodes2 values cdf alpha u allowance ≡ Err Exhausted → ⊥) → allowance ≤ other
    → sample_catmull_rom_2d nodes1 nodes2 values cdf alpha u other ≡ sample_catmull_rom_2d nodes1 nodes2 values cdf alpha u allowance
unfolding sample_catmull_rom_2d
sample_more nodes1 nodes2 values cdf alpha u allowance other h l = draw_more nodes2 values cdf (catmull_rom_weights nodes1 alpha) u allowance other h l

-- ---- the offered call

all_passed : (p q r s t : ℕ) → first_of (p ∷ q ∷ r ∷ s ∷ t ∷ []) ≡ 0 → (p ≡ 0) × (q ≡ 0) × (r ≡ 0) × (s ≡ 0) × (t ≡ 0)
all_passed p q r s t h =
    let a = first_none p _ h in
    let b = first_none q _ a.1 in
    let c = first_none r _ b.1 in
    let d = first_none s _ c.1 in
    (a.0, b.0, c.0, d.0, (first_none t [] d.1).0)

-- a larger allowance passes where the first did
number_more : (nodes1 nodes2 values cdf : List Float) (u : Float) (allowance other : ℕ) → sample_number nodes1 nodes2 values cdf u allowance ≤ 0 → allowance ≤ other → other ≤ max_allowance
    → sample_number nodes1 nodes2 values cdf u other ≤ 0
unfolding sample_number first_of
number_more nodes1 nodes2 values cdf u allowance other h l m =
    let a = all_passed (sizes_number (length nodes1) (length nodes2) (length values) (length cdf)) (check6 nodes1) (check6 nodes2) (check9 u) (check10 allowance) (le-zero h) in
    rw (a.0, a.1, a.2, a.3, allowance_passes other (le_trans (allowance_in_range allowance a.4).0 l) m) (le_refl 0)

told_13 : (s : Result (Option Sample) Refusal) → (sample_told s).refused ≡ false → s ≡ Err Exhausted → ⊥
unfolding sample_told told number
told_13 s h e = let n : sample_told s ≡ refusal 13 = ap sample_told e in cc

pub offered_more : (nodes1 nodes2 values cdf : List Float) (alpha u : Float) (allowance other : ℕ) → (sample2d nodes1 nodes2 values cdf alpha u allowance).refused ≡ false → allowance ≤ other → other ≤ max_allowance
    → sample2d nodes1 nodes2 values cdf alpha u other ≡ sample2d nodes1 nodes2 values cdf alpha u allowance
unfolding sample2d
offered_more nodes1 nodes2 values cdf alpha u allowance other h l m =
    let number : ℕ → ℕ = sample_number nodes1 nodes2 values cdf u in
    let sample : ℕ → Result (Option Sample) Refusal = sample_catmull_rom_2d nodes1 nodes2 values cdf alpha u in
    let n = not_refused (number allowance) (sample_told (sample allowance)) h in
    let k : (sample_told (sample allowance)).refused ≡ false = rw (answers (number allowance) (sample_told (sample allowance)) n) at h in
    rw (
      answers (number allowance) (sample_told (sample allowance)) n,
      answers (number other) (sample_told (sample other)) (number_more nodes1 nodes2 values cdf u allowance other n l m),
      sample_more nodes1 nodes2 values cdf alpha u allowance other (told_13 (sample allowance) k) l,
    )

-- a value is told by the number, too
pub offered_more_by_number : (nodes1 nodes2 values cdf : List Float) (alpha u : Float) (allowance other : ℕ) → (sample2d nodes1 nodes2 values cdf alpha u allowance).number ≡ 0 → allowance ≤ other → other ≤ max_allowance
    → sample2d nodes1 nodes2 values cdf alpha u other ≡ sample2d nodes1 nodes2 values cdf alpha u allowance
offered_more_by_number nodes1 nodes2 values cdf alpha u allowance other h =
    offered_more nodes1 nodes2 values cdf alpha u allowance other ((offered_numbered nodes1 nodes2 values cdf alpha u allowance).value_by_0 h)
