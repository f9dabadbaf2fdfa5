-- The rows that a query needs (specification, section 10.3): those of nonzero albedo weight, whatever the radius weights are; a channel that is outside needs none.
use Rattle.std.specs.Prelude.{ℕ, Bool, true, false, cond, ◌&&◌, ◌||◌, List, [], ◌∷◌, ◌++◌, eqb, ℤ, get_or, Float, Option, Some, None}
use Rattle.std.specs.Float.Ieee.{eq}
use Rattle.elementary.specs.Notation.{lit}
use Rattle.interpolation.specs.Blend.{row_of}
use Rattle.interpolation.specs.declared.weights.Four.{Four}
use Rattle.interpolation.specs.declared.weights.Weights.{Weights}
use Rattle.scattering.specs.Spectrum.{channel}
use Rattle.scattering.specs.declared.spectrum.RGBEnum.{RGBEnum}
use Rattle.scattering.specs.declared.spectrum.RGBEnum.TheVariants.{Red, Green, Blue}
use Rattle.table.specs.Parameters.{Lists}
use Rattle.bssrdf.specs.Coefficients.{sigma_t}
use Rattle.bssrdf.specs.Axes.{albedo_weights, radius_weights}
use Rattle.bssrdf.specs.declared.coefficients.Coefficients.{Coefficients}
use Rattle.bssrdf.specs.declared.coefficients.WorldRadius.{WorldRadius}

-- the row k before the others, unless its weight w is zero: ±0 is a zero weight
unfoldable pub row_if : Float → ℕ → List ℕ → List ℕ
row_if w k rows = cond (eq w (lit 0)) rows (k ∷ rows)

-- the rows of nonzero weight
unfoldable pub weighted_rows : ℤ → Four → List ℕ
weighted_rows offset f =
    row_if f.w0 (row_of offset 0) (row_if f.w1 (row_of offset 1) (row_if f.w2 (row_of offset 2) (row_if f.w3 (row_of offset 3) [])))

-- by one axis: none where the albedo is outside
unfoldable pub rows_of : Option Weights → List ℕ
rows_of (Some w) = weighted_rows w.offset w.four
rows_of None = []

-- by both: none where the albedo or the optical radius is outside
unfoldable pub rows_of_both : Option Weights → Option Weights → List ℕ
rows_of_both albedo (Some w) = rows_of albedo
rows_of_both albedo None = []

-- ---- the needed rows of each query

-- `pdf_sr` concerns one channel
unfoldable pub pdf_rows : Lists → RGBEnum → Coefficients → WorldRadius → List ℕ
pdf_rows t ch c x = rows_of_both (albedo_weights t c ch) (radius_weights t c x ch)

-- `sr` needs those of all three
unfoldable pub sr_rows : Lists → Coefficients → WorldRadius → List ℕ
sr_rows t c x = pdf_rows t Red c x ++ (pdf_rows t Green c x ++ pdf_rows t Blue c x)

-- `sample_sr` has no radius yet, and needs none where sigma_t is 0
unfoldable pub sample_rows : Lists → RGBEnum → Coefficients → List ℕ
sample_rows t ch c = cond (eq (channel (sigma_t c) ch) (lit 0)) [] (rows_of (albedo_weights t c ch))

-- ---- whether they are built

-- a mark of 1 is built, any other is not
unfoldable pub is_marked : List ℕ → ℕ → Bool
is_marked marks k = eqb (get_or marks k 0) 1

unfoldable pub all_marked : List ℕ → List ℕ → Bool
all_marked marks [] = true
all_marked marks (k ∷ rows) = is_marked marks k && all_marked marks rows

-- whether k is among the rows
unfoldable pub among : List ℕ → ℕ → Bool
among [] k = false
among (j ∷ rows) k = eqb j k || among rows k
