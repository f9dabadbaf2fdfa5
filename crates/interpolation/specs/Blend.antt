-- `interpolate` of `sample_catmull_rom_2d` (specification, section 9.6): a column of a table, blended over four rows of which those of weight zero are not read. And the search over a blended CDF.
use Rattle.std.specs.Prelude.{ℕ, suc, ◌+◌, ◌-◌, ◌*◌, ◌≤◌, ◌≡◌, Bool, cond, false, List, ℤ, pos, negsuc, get_or, length, Float}
use Rattle.std.specs.Float.{nan}
use Rattle.std.specs.Float.Ieee.{eq, le}
use Rattle.elementary.specs.Notation.{◌⊕◌, ◌⊗◌, lit}
use Rattle.interpolation.specs.Interval.{find_interval}
use Rattle.interpolation.specs.declared.weights.Four.{Four}

-- The row of weight k, which is offset + k. It is below 0 only at weight 0 of the offset -1; that weight is zero, and its row is not read (`reach_of_weights` of proofs/Reach).
unfoldable pub row_of : ℤ → ℕ → ℕ
row_of (pos o) k = o + k
row_of (negsuc j) k = k - suc j

-- the value with one row's part, for the weight w: ±0 is a zero weight
unfoldable pub add_row : List Float → ℕ → ℕ → ℕ → Float → Float → Float
add_row table m row col w value = cond (eq w (lit 0)) value (value ⊕ get_or table (row * m + col) nan ⊗ w)

-- column `col` of a table with m columns, blended
unfoldable pub interpolate : List Float → ℕ → ℤ → Four → ℕ → Float
interpolate table m offset f col =
    let v0 = add_row table m (row_of offset 0) col f.w0 (lit 0) in
    let v1 = add_row table m (row_of offset 1) col f.w1 v0 in
    let v2 = add_row table m (row_of offset 2) col f.w2 v1 in
    add_row table m (row_of offset 3) col f.w3 v2

-- the search over a blended CDF: its test is whether column k is at most u
unfoldable pub blend_at_most : List Float → ℕ → ℤ → Four → Float → ℕ → Bool
blend_at_most cdf m offset f u k = le (interpolate cdf m offset f k) u

unfoldable pub blend_interval : List Float → ℕ → ℤ → Four → Float → ℕ
blend_interval cdf m offset f u = find_interval (blend_at_most cdf m offset f u) m

-- what reading asks for: each row of nonzero weight lies within the table. Weight k has the row i + k - 1, which ends at (i + k) * m; weights 1 and 2 always have one
pub record InTable (table : List Float) (m i : ℕ) (f : Four) : Type 0 where
  pub first : eq f.w0 (lit 0) ≡ false → 1 ≤ i
  pub inside : (i + 2) * m ≤ length table
  pub last : eq f.w3 (lit 0) ≡ false → (i + 3) * m ≤ length table
