-- The laws of the splines: what holds of the definitions, beyond what they say. `SplineLaws`, at the end, is the contract of a function, `laws`; the records before it are its words.
use Rattle.std.specs.Prelude.{◌≡◌, true, false, ◌⊎◌, List, ℕ, ◌+◌, ◌-◌, ◌*◌, ◌≤◌, ◌<◌, T, ℤ, pos, negsuc, ◌+ℤ◌, get_or, length, Float, Some, None, Err}
use Rattle.std.specs.Float.{nan, binary32}
use Rattle.std.specs.Float.Ieee.{fits, le, eq, neg}
use Rattle.elementary.specs.Notation.{lit}
use Rattle.interpolation.specs.Interval.{node_interval}
use Rattle.interpolation.specs.Nodes.{finite, nodes_ok}
use Rattle.interpolation.specs.Weights.{within, weight_at, offset_of, catmull_rom_weights}
use Rattle.interpolation.specs.Blend.{row_of, interpolate, blend_interval}
use Rattle.interpolation.specs.Sample.{draw_from, sample_catmull_rom_2d}
use Rattle.interpolation.specs.declared.weights.Four.{Four}
use Rattle.interpolation.specs.declared.weights.Weights.{Weights}
use Rattle.answers.specs.declared.refusal.Refusal.TheVariants.{Exhausted}

-- each element is a value of binary32, as those of a `&[f32]` are
abbrev pub Holds : List Float → Type 0
Holds nodes = (k : ℕ) → T (fits binary32 (get_or nodes k nan))

-- an accepted list: two nodes or more, and check 6 passes it
pub record AcceptedList (nodes : List Float) : Type 0 where
  pub holds : Holds nodes
  pub two : 2 ≤ length nodes
  pub ok : nodes_ok nodes ≡ true

-- ---- the search: i is the last interval whose left node is at or below x; at the last node it is the last of all

pub record LastInterval (nodes : List Float) (x : Float) (i : ℕ) : Type 0 where
  pub in_list : i + 2 ≤ length nodes
  pub at_or_below : le (get_or nodes i nan) x ≡ true
  pub later : (j : ℕ) → i < j → j + 2 ≤ length nodes → le (get_or nodes j nan) x ≡ false
  pub at_last : eq x (get_or nodes (length nodes - 1) nan) ≡ true → i + 2 ≡ length nodes

-- ---- the weights on node k, for any x that equals it, so for either zero: the one at `place` is 1 (0x3f800000), the rest are zeros, of either sign, and the offset plus the place is k.
-- The place is 1, or on the last node 2.

pub record OnNode (nodes : List Float) (x : Float) (k : ℕ) : Type 0 where
  pub offset : ℤ
  pub four : Four
  pub place : ℕ
  pub answer : catmull_rom_weights nodes x ≡ Some (record { offset = offset; four = four })
  pub node : offset +ℤ pos place ≡ pos k
  pub which : ((place ≡ 1) × (k + 2 ≤ length nodes)) ⊎ ((place ≡ 2) × (k + 1 ≡ length nodes))
  pub is_one : weight_at four place ≡ lit 0x3f800000
  pub rest : (p : ℕ) → p < 4 → (p ≡ place → ⊥) → eq (weight_at four p) (lit 0) ≡ true

-- ---- the weights are finite, and at most 4 in size. 0x40000000 is 2, 0x40400000 is 3 and 0x40800000 is 4

-- w is a number from low to high
pub record Between (low high w : Float) : Type 0 where
  pub is_finite : finite w ≡ true
  pub from_low : le low w ≡ true
  pub to_high : le w high ≡ true

pub record Bounded (f : Four) : Type 0 where
  pub w0 : Between (neg (lit 0x3f800000)) (lit 0x3f800000) f.w0
  pub w1 : Between (neg (lit 0x40400000)) (lit 0x40400000) f.w1
  pub w2 : Between (neg (lit 0x40000000)) (lit 0x40800000) f.w2
  pub w3 : Between (neg (lit 0x3f800000)) (lit 0) f.w3

-- ---- a nonzero weight's node exists, among n. Those of the interval i are the nodes i - 1, i, i + 1 and i + 2; a weight of -0 is zero, and its node is not asked for

pub record Reach (f : Four) (i n : ℕ) : Type 0 where
  pub first : eq f.w0 (lit 0) ≡ false → 1 ≤ i
  pub inside : i + 2 ≤ n
  pub last : eq f.w3 (lit 0) ≡ false → i + 3 ≤ n

-- ---- two tables with m columns that agree on the rows of nonzero weight

pub record Agree (a b : List Float) (m : ℕ) (offset : ℤ) (f : Four) : Type 0 where
  pub at : (k col : ℕ) → k < 4 → col < m → eq (weight_at f k) (lit 0) ≡ false → get_or a (row_of offset k * m + col) nan ≡ get_or b (row_of offset k * m + col) nan

-- ---- the laws

pub record SplineLaws : Type 0 where
  -- either search answers 0 to n - 2, whatever the list holds
  pub node_bound : (nodes : List Float) (x : Float) → node_interval nodes x ≤ length nodes - 2
  pub blend_bound : (cdf : List Float) (m : ℕ) (o : ℤ) (f : Four) (u : Float) → blend_interval cdf m o f u ≤ m - 2
  -- on an accepted list and a value within it, the last interval whose left node is at or below the value
  pub last_interval : (nodes : List Float) → AcceptedList nodes → (x : Float) → T (fits binary32 x) → within nodes x ≡ true → LastInterval nodes x (node_interval nodes x)
  -- the offset is -1 to n - 3; a NaN is outside
  pub offset_range : (nodes : List Float) (x : Float) (w : Weights) → catmull_rom_weights nodes x ≡ Some w → 2 ≤ length nodes → (w.offset ≡ negsuc 0) ⊎ ((k : ℕ) × (w.offset ≡ pos k) × (k + 3 ≤ length nodes))
  pub nan_outside : (nodes : List Float) → catmull_rom_weights nodes nan ≡ None
  -- on node k one weight is 1 and the rest are zeros
  pub on_node : (nodes : List Float) → AcceptedList nodes → (x : Float) → T (fits binary32 x) → (k : ℕ) → k < length nodes → eq x (get_or nodes k nan) ≡ true → OnNode nodes x k
  -- on an accepted list every weight is finite and bounded
  pub weights_bounded : (nodes : List Float) → AcceptedList nodes → (x : Float) → T (fits binary32 x) → (w : Weights) → catmull_rom_weights nodes x ≡ Some w → Bounded w.four
  -- on any list a nonzero weight's node exists
  pub reach_of_weights : (nodes : List Float) (x : Float) (w : Weights) → catmull_rom_weights nodes x ≡ Some w → 2 ≤ length nodes → (w.offset ≡ offset_of (node_interval nodes x)) × Reach w.four (node_interval nodes x) (length nodes)
  -- a blend reads only rows of nonzero weight, and so does a draw
  pub interpolate_same : (a b : List Float) (m : ℕ) (o : ℤ) (f : Four) (col : ℕ) → Agree a b m o f → col < m → interpolate a m o f col ≡ interpolate b m o f col
  pub draw_same : (nodes2 values values' cdf cdf' : List Float) (w : Weights) → 2 ≤ length nodes2 → Agree values values' (length nodes2) w.offset w.four → Agree cdf cdf' (length nodes2) w.offset w.four
      → (u : Float) (allowance : ℕ) → draw_from nodes2 values cdf (Some w) u allowance ≡ draw_from nodes2 values' cdf' (Some w) u allowance
  -- an answer under one allowance is the answer under every larger one
  pub sample_more : (nodes1 nodes2 values cdf : List Float) (alpha u : Float) (allowance other : ℕ)
      → (sample_catmull_rom_2d nodes1 nodes2 values cdf alpha u allowance ≡ Err Exhausted → ⊥) → allowance ≤ other
      → sample_catmull_rom_2d nodes1 nodes2 values cdf alpha u other ≡ sample_catmull_rom_2d nodes1 nodes2 values cdf alpha u allowance
