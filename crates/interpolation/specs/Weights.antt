-- `catmull_rom_weights` of interpolation.rs, in its order of operations (specification, section 9.3).
use Rattle.std.specs.Prelude.{ℕ, zero, suc, ◌+◌, ◌-◌, Bool, cond, false, List, [], ◌∷◌, ltb, ℤ, pos, negsuc, get_or, length, Float, Option, Some, None}
use Rattle.std.specs.Float.{nan}
use Rattle.std.specs.Float.Ieee.{le, neg}
use Rattle.elementary.specs.Notation.{◌⊕◌, ◌⊖◌, ◌⊗◌, ◌⊘◌, lit}
use Rattle.interpolation.specs.Interval.{node_interval}
use Rattle.interpolation.specs.declared.weights.Four.{Four}
use Rattle.interpolation.specs.declared.weights.Weights.{Weights}

-- whether x lies within the ends of the nodes; a NaN does not
unfoldable pub within : List Float → Float → Bool
within nodes x = cond (le (get_or nodes 0 nan) x) (le x (get_or nodes (length nodes - 1) nan)) false

-- the Rust's local `w0`, at the parameter t of the interval i: t3 - 2 t2 + t, scaled where a node stands before the interval
unfoldable pub first_part : List Float → ℕ → Float → Float
first_part nodes i t =
    let x0 = get_or nodes i nan in
    let x1 = get_or nodes (i + 1) nan in
    let t2 = t ⊗ t in
    let t3 = t2 ⊗ t in
    let p = t3 ⊖ lit 0x40000000 ⊗ t2 ⊕ t in
    cond (ltb 0 i) (p ⊗ (x1 ⊖ x0) ⊘ (x1 ⊖ get_or nodes (i - 1) nan)) p

-- its local `w3`: t3 - t2, scaled where a node stands after the interval
unfoldable pub last_part : List Float → ℕ → Float → Float
last_part nodes i t =
    let x0 = get_or nodes i nan in
    let x1 = get_or nodes (i + 1) nan in
    let t2 = t ⊗ t in
    let t3 = t2 ⊗ t in
    let p = t3 ⊖ t2 in
    cond (ltb (i + 2) (length nodes)) (p ⊗ (x1 ⊖ x0) ⊘ (get_or nodes (i + 2) nan ⊖ x0)) p

-- the weights in the interval i: 0x40000000 is 2, 0x40400000 is 3 and 0x3f800000 is 1
unfoldable pub four_at : List Float → Float → ℕ → Four
four_at nodes x i =
    let x0 = get_or nodes i nan in
    let x1 = get_or nodes (i + 1) nan in
    let t = (x ⊖ x0) ⊘ (x1 ⊖ x0) in
    let t2 = t ⊗ t in
    let t3 = t2 ⊗ t in
    let w1 = lit 0x40000000 ⊗ t3 ⊖ lit 0x40400000 ⊗ t2 ⊕ lit 0x3f800000 in
    let w2 = neg (lit 0x40000000) ⊗ t3 ⊕ lit 0x40400000 ⊗ t2 in
    let p0 = first_part nodes i t in
    let p3 = last_part nodes i t in
    let before = ltb 0 i in
    let after = ltb (i + 2) (length nodes) in
    record {
      w0 = cond before (neg p0) (lit 0);
      w1 = cond before w1 (w1 ⊖ p0) ⊖ p3;
      w2 = cond after (w2 ⊕ p0) (w2 ⊕ p0 ⊕ p3);
      w3 = cond after p3 (lit 0);
    }

-- the weight at a place, counted from 0
abbrev pub weight_at : Four → ℕ → Float
weight_at f zero = f.w0
weight_at f (suc zero) = f.w1
weight_at f (suc (suc zero)) = f.w2
weight_at f (suc (suc (suc p))) = f.w3

-- the places 0 to 3, one after the other
abbrev pub over_four : {V : Type 0} → (ℕ → V → V) → V → V
over_four step v = step 3 (step 2 (step 1 (step 0 v)))

-- the four as a list, and a list as four
abbrev pub list_of_four : Four → List Float
list_of_four f = f.w0 ∷ f.w1 ∷ f.w2 ∷ f.w3 ∷ []

abbrev pub four_of : List Float → Four
four_of ws = record { w0 = get_or ws 0 nan; w1 = get_or ws 1 nan; w2 = get_or ws 2 nan; w3 = get_or ws 3 nan }

-- the first of the four nodes around the interval i: i - 1
unfoldable pub offset_of : ℕ → ℤ
offset_of zero = negsuc 0
offset_of (suc i) = pos i

-- the offset and the weights; none outside
unfoldable pub catmull_rom_weights : List Float → Float → Option Weights
catmull_rom_weights nodes x =
    let i = node_interval nodes x in
    cond (within nodes x) (Some (record { offset = offset_of i; four = four_at nodes x i })) None
