-- The calls on a caller's own lists (specification, section 11), each with the number of its refusal, its value, and what a lent list holds after it.
use Rattle.std.specs.Prelude.{ℕ, ◌*◌, List, [], ◌∷◌, pos, length, Float, Option, Some, None, Result}
use Rattle.elementary.specs.Notation.{lit}
use Rattle.interpolation.specs.Weights.{list_of_four, catmull_rom_weights}
use Rattle.interpolation.specs.Integral.{integrate_catmull_rom, cdf_of}
use Rattle.interpolation.specs.Sample.{sample_catmull_rom_2d}
use Rattle.answers.specs.Answer.{Answer, value, answered, written}
use Rattle.answers.specs.Checks.{first_of}
use Rattle.answers.specs.Refusal.{told}
use Rattle.answers.specs.declared.refusal.Refusal.{Refusal}
use Rattle.interpolation.specs.Checks.{check1, check2, check5, check6, check9, check10}
use Rattle.interpolation.specs.declared.weights.Weights.{Weights}
use Rattle.interpolation.specs.declared.sample.Sample.{Sample}

-- ---- weights: the offset and the four weights; outside has none

unfoldable pub weights_value : Option Weights → Answer
weights_value (Some w) = value (list_of_four w.four) (w.offset ∷ [])
weights_value None = value [] []

unfoldable pub weights_told : Result (Option Weights) Refusal → Answer
weights_told = told weights_value

unfoldable pub weights_number : List Float → ℕ
weights_number nodes = first_of (check1 (length nodes) ∷ check6 nodes ∷ [])

unfoldable pub weights : List Float → Float → Answer
weights nodes x = answered (weights_number nodes) (weights_value (catmull_rom_weights nodes x))

-- ---- integration: the sum, and the CDF list after the call

unfoldable pub integral_value : Float → Answer
integral_value sum = value (sum ∷ []) []

unfoldable pub integral_told : Result Float Refusal → Answer
integral_told = told integral_value

unfoldable pub integral_number : List Float → List Float → ℕ → ℕ
integral_number x values cdf_length = first_of (check1 (length x) ∷ check5 (length values) (length x) ∷ check5 cdf_length (length x) ∷ check6 x ∷ [])

unfoldable pub integral : List Float → List Float → List Float → Answer
integral x values cdf = answered (integral_number x values (length cdf)) (integral_value (integrate_catmull_rom x values))

unfoldable pub cdf_after : List Float → List Float → List Float → List Float
cdf_after x values cdf = written (integral_number x values (length cdf)) (cdf_of x values) cdf

-- ---- 2D sampling: position, value and density, and the rounds; outside is position 0 with zero rounds

unfoldable pub sample_value : Option Sample → Answer
sample_value (Some s) = value (s.position ∷ s.value ∷ s.density ∷ []) (pos s.rounds ∷ [])
sample_value None = value (lit 0 ∷ []) (pos 0 ∷ [])

unfoldable pub sample_told : Result (Option Sample) Refusal → Answer
sample_told = told sample_value

-- the sizes come first
unfoldable pub sizes_number : ℕ → ℕ → ℕ → ℕ → ℕ
sizes_number n m values_length cdf_length = first_of (check1 n ∷ check2 m ∷ check5 values_length (n * m) ∷ check5 cdf_length (n * m) ∷ [])

unfoldable pub sample_number : List Float → List Float → List Float → List Float → Float → ℕ → ℕ
sample_number nodes1 nodes2 values cdf u allowance =
    let sizes = sizes_number (length nodes1) (length nodes2) (length values) (length cdf) in
    first_of (sizes ∷ check6 nodes1 ∷ check6 nodes2 ∷ check9 u ∷ check10 allowance ∷ [])

unfoldable pub sample2d : List Float → List Float → List Float → List Float → Float → Float → ℕ → Answer
sample2d nodes1 nodes2 values cdf alpha u allowance =
    answered (sample_number nodes1 nodes2 values cdf u allowance) (sample_told (sample_catmull_rom_2d nodes1 nodes2 values cdf alpha u allowance))
