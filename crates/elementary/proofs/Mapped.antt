-- Lists that are a function of another, element by element: `map` by its elements, and the loops that make such a list, in its place or in another. Assumes nothing.
use Rattle.std.proofs.Common.{◌≡◌, ℕ, ◌+◌, ◌<◌, ◌≤◌, List, map, length, get_or, set, sym, refl, ap, ◌∙◌, arith, length-set, get_or-set_other, ext_get_or}
use Rattle.std.proofs.lemmas.List.{length-map, get_or-map}
use lib.Ieee.{Float, nan}
use Rattle.elementary.specs.Lists.{list_of}
use Rattle.elementary.proofs.Filled.{Filled, Fills, filled_none, filled_more, fills_more, length_list_of, get_or_list_of, filled_all, sum_to_same}

-- ---- `map` by its elements: the library's laws at floats, as the sets below need them

pub length_map : (f : Float → Float) (xs : List Float) → length (map f xs) ≡ length xs
length_map f xs = length-map xs f

pub get_or_map : (f : Float → Float) (xs : List Float) (k : ℕ) → k < length xs → get_or (map f xs) k nan ≡ f (get_or xs k nan)
get_or_map f xs k h = get_or-map f xs k nan nan h

-- ---- a loop that replaces each element in its place

-- `xs` was `old`, and its first i elements are done
pub record Mapped (f : Float → Float) (old xs : List Float) (i : ℕ) : Type 0 where
  pub as_long : length xs ≡ length old
  pub done : Filled (λ k. f (get_or old k nan)) xs i
  pub rest : (k : ℕ) → i ≤ k → get_or xs k nan ≡ get_or old k nan

pub mapped_none : (f : Float → Float) (old : List Float) → Mapped f old old 0
mapped_none f old = record { as_long = refl; done = filled_none _ old; rest = λ k h. refl }

pub mapped_more : (f : Float → Float) (old xs : List Float) (i : ℕ) (v : Float) → i < length xs → v ≡ f (get_or xs i nan) → Mapped f old xs i → Mapped f old (set xs i v) (i + 1)
mapped_more f old xs i v h e m =
    record {
      as_long = length-set xs i v ∙ m.as_long;
      done = filled_more _ xs i v h (e ∙ ap f (m.rest i (omega arith))) m.done;
      rest = λ k l. get_or-set_other xs i k v nan (λ (q : k ≡ i). omega arith) ∙ m.rest k (omega arith);
    }

pub filled_map : (f : Float → Float) (old xs : List Float) → length xs ≡ length old → Filled (λ k. f (get_or old k nan)) xs (length old) → xs ≡ map f old
filled_map f old xs e done =
    ext_get_or nan xs (map f old) (e ∙ sym (length_map f old)) (λ k h. let l : k < length old = omega arith in done k l ∙ sym (get_or_map f old k l))

pub mapped_all : (f : Float → Float) (old xs : List Float) → Mapped f old xs (length old) → xs ≡ map f old
mapped_all f old xs m = filled_map f old xs m.as_long m.done

-- ---- a loop that fills another list with f of each element

-- after i turns the first i elements of `xs` are f of those of `old`
abbrev pub FillsFrom : (Float → Float) → List Float → List Float → ℕ → Type 0
FillsFrom f old xs i = Fills (λ k. f (get_or old k nan)) xs (length old) i

pub fills_map : (f : Float → Float) (old : List Float) {xs : List Float} {i : ℕ} → length old ≤ i → FillsFrom f old xs i → xs ≡ map f old
fills_map f old {xs = xs} {i = i} h l =
    let e : i ≡ length old = omega (arith, l.within) in
    filled_map f old xs l.as_long (rw e at l.done)

-- g makes of each element of `xs` what f makes of one of `old`, or what a function of the index gives
pub map_then : (g f : Float → Float) (old xs : List Float) → length xs ≡ length old → ((k : ℕ) → k < length old → g (get_or xs k nan) ≡ f (get_or old k nan)) → map g xs ≡ map f old
map_then g f old xs e done =
    filled_map f old (map g xs) (length_map g xs ∙ e) (λ k h. let l : k < length xs = omega arith in get_or_map g xs k l ∙ done k h)

-- so where f made each element of `xs`, and then g is made of it
pub fills_then : (g f : Float → Float) (old : List Float) {xs ys : List Float} {i : ℕ} → length old ≤ i → Fills (λ k. f (get_or old k nan)) xs (length old) i → ys ≡ map g xs
    → ys ≡ map (λ x. g (f x)) old
fills_then g f old {xs = xs} h l e = e ∙ map_then g (λ x. g (f x)) old xs l.as_long (λ k m. ap g (l.done k (omega arith)))

pub map_listed : (g : Float → Float) (f : ℕ → Float) (xs : List Float) (n : ℕ) → length xs ≡ n → ((k : ℕ) → k < n → g (get_or xs k nan) ≡ f k) → map g xs ≡ list_of n f
map_listed g f xs n e done =
    filled_all f (map g xs) n (length_map g xs ∙ e) (λ k h. let l : k < length xs = omega arith in get_or_map g xs k l ∙ done k h)

-- ---- sets of these laws

-- a loop with the invariant `FillsFrom`, also where each element is then replaced in its place
pub ruleset filling = (fills_more, filled_map, map_then)

-- a loop with the invariant `Fills`, where the list is told by the index alone
pub ruleset listing = (fills_more, filled_all, map_listed)

-- a loop with the invariant `Mapped`
pub ruleset mapping = (mapped_none, mapped_more, mapped_all, length_map, get_or_map)

-- a sum over such lists, which is one over the index, addend by addend
pub ruleset summing = (sum_to_same, length_list_of, get_or_list_of, length_map, get_or_map)
