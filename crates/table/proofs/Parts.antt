-- A part of a list that was lent as `&mut xs[a..a + m]` and came back as `part`: the whole is `put`, and the part read back is `part`. And what `put` changes: its own places alone. Assumes nothing.
use mathlib.Core.Path.{◌≡◌, refl, sym, ap, ◌∙◌}
use mathlib.Core.Bool.{Bool, true, false}
use mathlib.Core.Logic.{◌⊎◌, inl, inr}
use mathlib.Core.List.{List, ◌++◌}
use Prim.Native.Nat.{ℕ, zero, suc, ◌+◌, ◌-◌, ◌*◌, ◌≤◌, ◌<◌}
use native.Mathlib.Nat.{mul-le-mul_right, suc-mul, zero-mul, eq-or-lt_of_le}
use native.Mathlib.Omega.{arith}
use borrow.Author.Tests.{ltb-true, ltb-false}
use borrow.Rule.Slice.PartMut.{put_mid}
use lib.Dec.{ltb}
use lib.ListN.{length, length-append, length-drop, take, drop, take-append-drop}
use lib.Seq.{drop-drop, drop_at, take_at, take_all, take-add, length-take-le, drop-append-le, take-append-le, drop-append-add}
use lib.Ieee.{Float}
use Rattle.table.specs.Row.{put}

pub put_back : (a m : ℕ) (xs part : List Float) → length part ≡ m → put_mid a (a + m - a) xs part ≡ put a part xs
unfolding put
put_back a m xs part e =
    let k : a + (a + m - a) ≡ a + length part = omega arith in
    rw (drop-drop (a + m - a) a xs, k)

pub read_back : (a m : ℕ) (xs part : List Float) → a + m ≤ length xs → length part ≡ m → take (a + m - a) (drop a (put_mid a (a + m - a) xs part)) ≡ part
read_back a m xs part h e =
    let k : length part ≡ a + m - a = omega arith in
    rw (drop_at (take a xs) (part ++ drop (a + m - a) (drop a xs)) a (length-take-le a xs (omega arith))) (take_at part (drop (a + m - a) (drop a xs)) (a + m - a) k)

-- ---- what `put` changes

pub length_put : (a : ℕ) (part xs : List Float) → a + length part ≤ length xs → length (put a part xs) ≡ length xs
unfolding put
length_put a part xs h =
    let e = length-take-le a xs (omega arith) in
    omega (arith, length-append (take a xs) (part ++ drop (a + length part) xs), length-append part (drop (a + length part) xs), length-drop (a + length part) xs, e)

-- its own places
pub put_here : (a m : ℕ) (part xs : List Float) → a ≤ length xs → length part ≡ m → take m (drop a (put a part xs)) ≡ part
unfolding put
put_here a m part xs h e = rw (drop_at (take a xs) (part ++ drop (a + length part) xs) a (length-take-le a xs h)) (take_at part (drop (a + length part) xs) m e)

-- what lies before depends on the front alone
front : (b m a : ℕ) (xs ys : List Float) → b + m ≤ a → a ≤ length xs → take m (drop b (take a xs ++ ys)) ≡ take m (drop b (take a xs))
front b m a xs ys h l =
    let e = length-take-le a xs l in
    ap (take m) (drop-append-le b (take a xs) ys (omega arith)) ∙ take-append-le m (drop b (take a xs)) ys (omega (arith, length-drop b (take a xs)))

pub put_before : (b m a : ℕ) (part xs : List Float) → b + m ≤ a → a ≤ length xs → take m (drop b (put a part xs)) ≡ take m (drop b xs)
unfolding put
put_before b m a part xs h l =
    front b m a xs _ h l ∙ sym (front b m a xs (drop a xs) h l) ∙ ap (λ (ys : List Float). take m (drop b ys)) (take-append-drop a xs)

-- and what lies after
pub put_after : (b a : ℕ) (part xs : List Float) → a + length part ≤ b → a ≤ length xs → drop b (put a part xs) ≡ drop b xs
unfolding put
put_after b a part xs h l =
    let k = b - (a + length part) in
    let rest = drop (a + length part) xs in
    let over : b ≡ length (take a xs) + (length part + k) = omega (arith, length-take-le a xs l) in
    let whole : a + length part + k ≡ b = omega arith in
    ap (λ (j : ℕ). drop j (take a xs ++ (part ++ rest))) over
    ∙ drop-append-add (take a xs) (part ++ rest) (length part + k)
    ∙ drop-append-add part rest k
    ∙ drop-drop k (a + length part) xs
    ∙ ap (λ (j : ℕ). drop j xs) whole

-- ---- rows: those of m elements that begin at k times m

-- a row lies within its list
pub row_within : (n m i : ℕ) → i < n → i * m + m ≤ n * m
row_within n m i h =
    let whole : suc i * m ≤ n * m = mul-le-mul_right m h in
    omega (arith, suc-mul i m)

-- the other rows are left as they were
pub put_other : (m i k : ℕ) (part xs : List Float) → length part ≡ m → i * m + m ≤ length xs → (k ≡ i → ⊥) → take m (drop (k * m) (put (i * m) part xs)) ≡ take m (drop (k * m) xs)
put_other m i k part xs e h ne = go (ltb k i) refl
  where
    after : (i ≡ k) ⊎ (i < k) → take m (drop (k * m) (put (i * m) part xs)) ≡ take m (drop (k * m) xs)
    after (inl q) = absurd (ne (sym q))
    after (inr l) = ap (take m) (put_after (k * m) (i * m) part xs (omega (arith, row_within k m i l)) (omega arith))

    go : (b : Bool) → ltb k i ≡ b → take m (drop (k * m) (put (i * m) part xs)) ≡ take m (drop (k * m) xs)
    go true q = put_before (k * m) m (i * m) part xs (row_within i m k (ltb-true k i q)) (omega arith)
    go false q = after (eq-or-lt_of_le (ltb-false k i q))

-- the rows decide the list
pub rows_same : (n m : ℕ) (xs ys : List Float) → length xs ≡ n * m → length ys ≡ n * m → ((k : ℕ) → k < n → take m (drop (k * m) xs) ≡ take m (drop (k * m) ys)) → xs ≡ ys
rows_same n m xs ys e f h = sym (take_all (n * m) xs (omega arith)) ∙ upto n (λ k l. h k l) ∙ take_all (n * m) ys (omega arith)
  where
    upto : (k : ℕ) → ((j : ℕ) → j < k → take m (drop (j * m) xs) ≡ take m (drop (j * m) ys)) → take (k * m) xs ≡ take (k * m) ys
    upto zero g = rw (zero-mul m)
    upto (suc k) g =
        let e : suc k * m ≡ k * m + m = suc-mul k m in
        rw (e, take-add (k * m) m xs, take-add (k * m) m ys, upto k (λ j l. g j (omega arith)), g k (omega arith))
