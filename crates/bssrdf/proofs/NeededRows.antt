-- The rows of nonzero weight, and whether they are marked. A row is among `weighted_rows` exactly if it is that of one of the four places, whose weight is not zero (`weighted`, `place_among`); its node exists (`rows_exist`).
-- All rows are marked exactly if each one among them is (`all_marked_lem`, `some_missing`). Assumes nothing.
use mathlib.Core.Path.{◌≡◌, refl, sym}
use mathlib.Core.Bool.{Bool, true, false, cond, ◌&&◌, ◌||◌, false≢true, true≢false}
use mathlib.Core.Logic.{◌⊎◌, inl, inr}
use mathlib.Core.List.{List, [], ◌∷◌, ◌++◌}
use Prim.Native.Nat.{ℕ, zero, suc, ◌≤◌, ◌<◌}
use native.Mathlib.Omega.{arith}
use borrow.Author.Tests.{eqb-true, eq-eqb}
use lib.Dec.{eqb}
use lib.IntN.{ℤ}
use lib.ListN.{length}
use lib.Ieee.{Float, eq}
use Rattle.elementary.specs.Notation.{lit}
use Rattle.interpolation.specs.Weights.{weight_at, offset_of, catmull_rom_weights}
use Rattle.interpolation.specs.Interval.{node_interval}
use Rattle.interpolation.specs.Blend.{row_of}
use Rattle.interpolation.specs.Laws.{Reach}
use Rattle.interpolation.specs.declared.weights.Four.{Four}
use Rattle.interpolation.specs.declared.weights.Weights.{Weights}
use Rattle.std.specs.Prelude.{Option, Some, None}
use Rattle.interpolation.proofs.Finite.{and_left, and_right}
use Rattle.interpolation.proofs.Rows.{row_is}
use Rattle.interpolation.proofs.Reach.{reach_of_weights}
use Rattle.bssrdf.specs.Needed.{row_if, weighted_rows, rows_of, rows_of_both, is_marked, all_marked, among}
use Rattle.bssrdf.specs.Laws.{Missing}

-- ---- among a list with one row more, and among two lists

or_cases : (a b : Bool) → (a || b) ≡ true → (a ≡ true) ⊎ (b ≡ true)
or_cases true b h = inl refl
or_cases false b h = inr h

or_right : (a b : Bool) → b ≡ true → (a || b) ≡ true
or_right true b h = refl
or_right false b h = h

pub append_left : (xs ys : List ℕ) (k : ℕ) → among xs k ≡ true → among (xs ++ ys) k ≡ true
unfolding among
append_left [] ys k h = absurd (false≢true h)
append_left (x ∷ xs) ys k h = elim (or_cases (eqb x k) (among xs k) h) [ inl e ↦ rw e | inr l ↦ or_right (eqb x k) _ (append_left xs ys k l) ]

pub append_right : (xs ys : List ℕ) (k : ℕ) → among ys k ≡ true → among (xs ++ ys) k ≡ true
unfolding among
append_right [] ys k h = h
append_right (x ∷ xs) ys k h = or_right (eqb x k) _ (append_right xs ys k h)

pub append_cases : (xs ys : List ℕ) (k : ℕ) → among (xs ++ ys) k ≡ true → (among xs k ≡ true) ⊎ (among ys k ≡ true)
unfolding among
append_cases [] ys k h = inr h
append_cases (x ∷ xs) ys k h = elim (or_cases (eqb x k) (among (xs ++ ys) k) h) [
  | inl e ↦ inl (rw e)
  | inr l ↦ elim (append_cases xs ys k l) [ inl a ↦ inl (or_right (eqb x k) _ a) | inr b ↦ inr b ]
]

-- ---- the rows of nonzero weight

-- k is the row of a place whose weight is not zero
pub record Weighted (offset : ℤ) (f : Four) (k : ℕ) : Type 0 where
  pub place : ℕ
  pub small : place < 4
  pub nonzero : eq (weight_at f place) (lit 0) ≡ false
  pub row : row_of offset place ≡ k

front : (w : Float) (row : ℕ) (rows : List ℕ) → eq w (lit 0) ≡ false → among (row_if w row rows) row ≡ true
unfolding row_if among
front w row rows h = rw (h, eq-eqb row row refl)

behind : (w : Float) (row : ℕ) (rows : List ℕ) (k : ℕ) → among rows k ≡ true → among (row_if w row rows) k ≡ true
unfolding row_if among
behind w row rows k h = go (eq w (lit 0))
  where
    go : (b : Bool) → among (cond b rows (row ∷ rows)) k ≡ true
    go true = h
    go false = or_right (eqb row k) _ h

module _ (offset : ℤ) (f : Four) where
  pub place_among : (place : ℕ) → place < 4 → eq (weight_at f place) (lit 0) ≡ false → among (weighted_rows offset f) (row_of offset place) ≡ true
  unfolding weighted_rows
  place_among zero l h = front _ _ _ h
  place_among (suc zero) l h = behind _ _ _ _ (front _ _ _ h)
  place_among (suc (suc zero)) l h = behind _ _ _ _ (behind _ _ _ _ (front _ _ _ h))
  place_among (suc (suc (suc zero))) l h = behind _ _ _ _ (behind _ _ _ _ (behind _ _ _ _ (front _ _ _ h)))
  place_among (suc (suc (suc (suc p)))) l h = absurd (omega arith)

  -- one place more
  step : (place : ℕ) (rows : List ℕ) (k : ℕ) → place < 4 → (among rows k ≡ true → Weighted offset f k) → among (row_if (weight_at f place) (row_of offset place) rows) k ≡ true → Weighted offset f k
  unfolding row_if among
  step place rows k l later = go (eq (weight_at f place) (lit 0)) refl
    where
      go : (b : Bool) → eq (weight_at f place) (lit 0) ≡ b → among (cond b rows (row_of offset place ∷ rows)) k ≡ true → Weighted offset f k
      go true e h = later h
      go false e h = elim (or_cases (eqb (row_of offset place) k) (among rows k) h) [
        | inl q ↦ record { place = place; small = l; nonzero = e; row = eqb-true _ _ q }
        | inr q ↦ later q
      ]

  pub weighted : (k : ℕ) → among (weighted_rows offset f) k ≡ true → Weighted offset f k
  unfolding weighted_rows among
  weighted k = step 0 _ k (omega arith) (step 1 _ k (omega arith) (step 2 _ k (omega arith) (step 3 [] k (omega arith) (λ h. absurd (false≢true h)))))

-- the node of a nonzero weight exists
pub place_exists : (f : Four) (i n : ℕ) → Reach f i n → (place : ℕ) → place < 4 → eq (weight_at f place) (lit 0) ≡ false → row_of (offset_of i) place < n
place_exists f i n r zero l h = let a = r.first h in omega (arith, row_is i 0)
place_exists f i n r (suc zero) l h = omega (arith, row_is i 1)
place_exists f i n r (suc (suc zero)) l h = omega (arith, row_is i 2)
place_exists f i n r (suc (suc (suc zero))) l h = let a = r.last h in omega (arith, row_is i 3)
place_exists f i n r (suc (suc (suc (suc p)))) l h = absurd (omega arith)

pub node_exists : (nodes : List Float) (x : Float) (w : Weights) → catmull_rom_weights nodes x ≡ Some w → 2 ≤ length nodes → (place : ℕ) → place < 4 → eq (weight_at w.four place) (lit 0) ≡ false → row_of w.offset place < length nodes
node_exists nodes x w e two place l h =
    let a = reach_of_weights nodes x w e two in
    rw a.0 (place_exists w.four (node_interval nodes x) (length nodes) a.1 place l h)

pub rows_exist : (nodes : List Float) (x : Float) → 2 ≤ length nodes → (k : ℕ) → among (rows_of (catmull_rom_weights nodes x)) k ≡ true → k < length nodes
unfolding rows_of among
rows_exist nodes x two k = go (catmull_rom_weights nodes x) refl
  where
    go : (w : Option Weights) → catmull_rom_weights nodes x ≡ w → among (rows_of w) k ≡ true → k < length nodes
    go (Some w) e h =
        let a = weighted w.offset w.four k h in
        rw (sym a.row) (node_exists nodes x w e two a.place a.small a.nonzero)
    go None e h = absurd (false≢true h)

-- fewer are needed where the radius is outside, or where nothing is drawn
pub both_among : (a b : Option Weights) (k : ℕ) → among (rows_of_both a b) k ≡ true → among (rows_of a) k ≡ true
unfolding rows_of_both among
both_among a (Some w) k h = h
both_among a None k h = absurd (false≢true h)

pub unless_among : (b : Bool) (rows : List ℕ) (k : ℕ) → among (cond b [] rows) k ≡ true → among rows k ≡ true
unfolding among
unless_among true rows k h = absurd (false≢true h)
unless_among false rows k h = h

-- ---- whether all are marked

pub all_marked_lem : (marks rows : List ℕ) (k : ℕ) → all_marked marks rows ≡ true → among rows k ≡ true → is_marked marks k ≡ true
unfolding all_marked among
all_marked_lem marks [] k h a = absurd (false≢true a)
all_marked_lem marks (j ∷ rows) k h a = elim (or_cases (eqb j k) (among rows k) a) [
  | inl q ↦ rw (sym (eqb-true j k q)) (and_left (is_marked marks j) _ h)
  | inr q ↦ all_marked_lem marks rows k (and_right (is_marked marks j) _ h) q
]

and_cases : (a b : Bool) → (a && b) ≡ false → (a ≡ false) ⊎ (b ≡ false)
and_cases true b h = inr h
and_cases false b h = inl refl

pub some_missing : (marks rows : List ℕ) → all_marked marks rows ≡ false → Missing marks rows
unfolding all_marked among
some_missing marks [] h = absurd (true≢false h)
some_missing marks (j ∷ rows) h = elim (and_cases (is_marked marks j) (all_marked marks rows) h) [
  | inl e ↦ (j, rw (eq-eqb j j refl), e)
  | inr e ↦ let m = some_missing marks rows e in (m.0, or_right (eqb j m.0) _ m.1, m.2)
]

-- marks that are the same at each of the rows
pub marked_same : (a b rows : List ℕ) → ((k : ℕ) → among rows k ≡ true → is_marked a k ≡ is_marked b k) → all_marked a rows ≡ all_marked b rows
unfolding all_marked among
marked_same a b [] h = refl
marked_same a b (j ∷ rows) h = rw (h j (rw (eq-eqb j j refl)), marked_same a b rows (λ k l. h k (or_right (eqb j k) _ l)))
