-- Marks of a list of rows, row by row: a row of zero weight asks for nothing. Assumes nothing.
use mathlib.Core.Path.{◌≡◌, refl, ap, ◌∙◌}
use mathlib.Core.Bool.{Bool, true, false, cond, ◌&&◌}
use mathlib.Core.List.{List, [], ◌∷◌, ◌++◌}
use Prim.Native.Nat.{ℕ}
use lib.IntN.{ℤ}
use lib.Ieee.{Float, eq}
use Rattle.std.specs.Prelude.{Option, Some, None, is_some, IfSome}
use Rattle.std.specs.Option.{option_map_or}
use Rattle.elementary.specs.Notation.{lit}
use Rattle.interpolation.specs.Weights.{weight_at, over_four, offset_of}
use Rattle.interpolation.specs.Blend.{row_of}
use Rattle.interpolation.specs.declared.weights.Four.{Four}
use Rattle.interpolation.specs.declared.weights.Place.{Place}
use Rattle.bssrdf.specs.Axes.{weights_by}
use Rattle.bssrdf.specs.Needed.{row_if, weighted_rows, rows_of, is_marked, all_marked}

-- the row k is marked, or its weight is zero
abbrev pub Ready : List ℕ → Float → ℕ → Bool
Ready marks w k = cond (eq w (lit 0)) true (is_marked marks k)

pub marked_if : (marks : List ℕ) (w : Float) (k : ℕ) (rows : List ℕ) → all_marked marks (row_if w k rows) ≡ (Ready marks w k && all_marked marks rows)
unfolding row_if all_marked
marked_if marks w k rows = go (eq w (lit 0))
  where
    go : (b : Bool) → all_marked marks (cond b rows (k ∷ rows)) ≡ (cond b true (is_marked marks k) && all_marked marks rows)
    go true = refl
    go false = refl

and_assoc : (a b c : Bool) → (a && (b && c)) ≡ ((a && b) && c)
and_assoc true b c = refl
and_assoc false b c = refl

pub marked_append : (marks xs ys : List ℕ) → all_marked marks (xs ++ ys) ≡ (all_marked marks xs && all_marked marks ys)
unfolding all_marked
marked_append marks [] ys = refl
marked_append marks (k ∷ xs) ys = ap (λ (b : Bool). is_marked marks k && b) (marked_append marks xs ys) ∙ and_assoc (is_marked marks k) (all_marked marks xs) (all_marked marks ys)

four_ands : (a b c d : Bool) → (a && (b && (c && (d && true)))) ≡ (a && b && c && d)
four_ands false b c d = refl
four_ands true false c d = refl
four_ands true true false d = refl
four_ands true true true false = refl
four_ands true true true true = refl

-- the step of the row of weight k: the rows before it are ready, and it is
abbrev pub AlsoReady : List ℕ → ℤ → Four → ℕ → Bool → Bool
AlsoReady marks o f k ready = ready && Ready marks (weight_at f k) (row_of o k)

-- the rows of four weights, one after the other
pub four_marked : (marks : List ℕ) (o : ℤ) (f : Four) → all_marked marks (weighted_rows o f) ≡ over_four (AlsoReady marks o f) true
unfolding weighted_rows all_marked
four_marked marks o f =
    rw (marked_if marks f.w0 _ _, marked_if marks f.w1 _ _, marked_if marks f.w2 _ _, marked_if marks f.w3 _ _)
    (four_ands (Ready marks f.w0 (row_of o 0)) (Ready marks f.w1 (row_of o 1)) (Ready marks f.w2 (row_of o 2)) (Ready marks f.w3 (row_of o 3)))

-- the rows of a channel, which has a place where it is inside
pub channel_marked : (marks : List ℕ) (inside : Bool) (i : ℕ) (f : Four) (place : Option Place) → is_some place ≡ inside → IfSome place (λ p. (p.interval ≡ i) × (p.four ≡ f))
    → option_map_or (λ p. all_marked marks (weighted_rows (offset_of p.interval) p.four)) place true ≡ all_marked marks (rows_of (weights_by inside i f))
unfolding weights_by rows_of all_marked
channel_marked marks inside i f None e s = rw (← e) refl
channel_marked marks inside i f (Some p) e s = rw (← e, s.0, s.1) refl

-- the rows of three channels
pub three_marked : (marks xs ys zs : List ℕ) → all_marked marks (xs ++ (ys ++ zs)) ≡ (all_marked marks xs && all_marked marks ys && all_marked marks zs)
three_marked marks xs ys zs =
    marked_append marks xs (ys ++ zs) ∙ ap (λ (b : Bool). all_marked marks xs && b) (marked_append marks ys zs) ∙ and_assoc (all_marked marks xs) (all_marked marks ys) (all_marked marks zs)
