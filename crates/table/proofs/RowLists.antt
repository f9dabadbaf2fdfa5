-- Lists by index and lists of rows: their elements, also where one of them is replaced. Assumes nothing.
use mathlib.Core.Path.{◌≡◌, refl, sym, ap, ◌∙◌}
use mathlib.Core.Bool.{Bool, true, false, cond}
use mathlib.Core.List.{List, ◌∷◌, ◌++◌}
use Prim.Native.Nat.{ℕ, zero, suc, ◌+◌, ◌*◌, ◌≤◌, ◌<◌}
use native.Mathlib.Nat.{add-zero, zero-add, suc-add, add-suc, zero-mul}
use native.Mathlib.Omega.{arith}
use borrow.Author.Tests.{eqb-true, eqb-false}
use lib.Dec.{eqb}
use lib.ListN.{length, length-append, get_or, set, take, drop, replicate, replicate-append-replicate}
use lib.Seq.{get_or-set_same, get_or-set_other, take_at, drop-append-add}
use lib.Ieee.{Float}
use Rattle.elementary.specs.Lists.{from, list_of}
use Rattle.table.specs.Row.{put}
use Rattle.table.specs.Sets.{rows_from}
use Rattle.table.proofs.Parts.{put_here, put_other}

-- ---- a list by index

module _ {A : Type 0} where
  replicate_from : (s n : ℕ) (a : A) → replicate n a ≡ from s n (λ k. a)
  unfolding from
  replicate_from s zero a = refl
  replicate_from s (suc n) a = ap (λ (r : List A). a ∷ r) (replicate_from (suc s) n a)

  pub replicate_list_of : (n : ℕ) (a : A) → replicate n a ≡ list_of n (λ k. a)
  unfolding list_of
  replicate_list_of n a = replicate_from 0 n a

  -- each element of a list with one of them replaced
  pub set_at_each : (xs : List A) (i k : ℕ) (v d : A) → i < length xs → get_or (set xs i v) k d ≡ cond (eqb k i) v (get_or xs k d)
  set_at_each xs i k v d l = go (eqb k i) refl
    where
      go : (b : Bool) → eqb k i ≡ b → get_or (set xs i v) k d ≡ cond b v (get_or xs k d)
      go true q = rw (eqb-true k i q) (get_or-set_same xs i v d l)
      go false q = get_or-set_other xs i k v d (eqb-false k i q)

-- ---- rows of m elements, one after the other

-- each row of a list with one of them replaced
pub put_at_each : (m i k : ℕ) (part xs : List Float) → length part ≡ m → i * m + m ≤ length xs
    → take m (drop (k * m) (put (i * m) part xs)) ≡ cond (eqb k i) part (take m (drop (k * m) xs))
put_at_each m i k part xs e h = go (eqb k i) refl
  where
    go : (b : Bool) → eqb k i ≡ b → take m (drop (k * m) (put (i * m) part xs)) ≡ cond b part (take m (drop (k * m) xs))
    go true q = rw (eqb-true k i q) (put_here (i * m) m part xs (omega arith) e)
    go false q = put_other m i k part xs e h (eqb-false k i q)

-- the rows f j, f (j + 1), ..
module _ {A : Type 0} (m : ℕ) where
  length_from_row : (j n : ℕ) (f : ℕ → List A) → ((k : ℕ) → length (f k) ≡ m) → length (rows_from j n f) ≡ n * m
  unfolding rows_from
  length_from_row j zero f h = sym (zero-mul m)
  length_from_row j (suc n) f h =
      let e = length_from_row (suc j) n f h in
      omega (arith, length-append (f j) (rows_from (suc j) n f), h j)

  pub length_rows : (n : ℕ) (f : ℕ → List A) → ((k : ℕ) → length (f k) ≡ m) → length (rows_from 0 n f) ≡ n * m
  length_rows = length_from_row 0

  row_from : (j n k : ℕ) (f : ℕ → List A) → ((k : ℕ) → length (f k) ≡ m) → k < n → take m (drop (k * m) (rows_from j n f)) ≡ f (j + k)
  unfolding rows_from
  row_from j zero k f h l = absurd (omega arith)
  row_from j (suc n) zero f h l = rw zero-mul (take_at (f j) (rows_from (suc j) n f) m (h j)) ∙ ap f (sym (add-zero j))
  row_from j (suc n) (suc k) f h l =
      let e : suc k * m ≡ length (f j) + k * m = omega (arith, h j) in
      ap (λ (x : ℕ). take m (drop x (f j ++ rows_from (suc j) n f))) e
      ∙ ap (take m) (drop-append-add (f j) (rows_from (suc j) n f) (k * m))
      ∙ row_from (suc j) n k f h (omega arith)
      ∙ ap f (suc-add j k ∙ sym (add-suc j k))

  -- row k is f k
  pub row_of_lem : (n k : ℕ) (f : ℕ → List A) → ((k : ℕ) → length (f k) ≡ m) → k < n → take m (drop (k * m) (rows_from 0 n f)) ≡ f k
  row_of_lem n k f h l = row_from 0 n k f h l ∙ ap f (zero-add k)

  pub replicate_rows : (j n : ℕ) (a : A) → replicate (n * m) a ≡ rows_from j n (λ k. replicate m a)
  unfolding rows_from
  replicate_rows j zero a = ap (λ (k : ℕ). replicate k a) (zero-mul m)
  replicate_rows j (suc n) a =
      let e : suc n * m ≡ m + n * m = omega arith in
      ap (λ (k : ℕ). replicate k a) e ∙ sym (replicate-append-replicate m (n * m) a) ∙ ap (λ (r : List A). replicate m a ++ r) (replicate_rows (suc j) n a)
