-- A loop that fills a list of floats from the front, one store a turn: after i turns the first i elements are those of `list_of`, and a list that is filled to its end is `list_of`. Assumes nothing.
use Rattle.std.proofs.Common.{◌≡◌, ℕ, zero, suc, ◌+◌, ◌<◌, ◌≤◌, List, length, get_or, set, sym, refl, ap, ◌∙◌, ap₂, add-zero, zero-add, ne_of_lt, arith, length-set, get_or-set_other, get_or-set_same, ext_get_or, below_none, below_more}
use lib.Ieee.{Float, nan}
use Rattle.elementary.specs.Notation.{◌⊕◌}
use Rattle.elementary.specs.Lists.{sum_to, from, list_of}

-- the first i elements are f 0, f 1, ..
abbrev pub Filled : (ℕ → Float) → List Float → ℕ → Type 0
Filled f xs i = (k : ℕ) → k < i → get_or xs k nan ≡ f k

pub filled_none : (f : ℕ → Float) (xs : List Float) → Filled f xs 0
filled_none f xs = below_none (λ k. get_or xs k nan ≡ f k)

-- one store more
pub filled_more : (f : ℕ → Float) (xs : List Float) (i : ℕ) (v : Float) → i < length xs → v ≡ f i → Filled f xs i → Filled f (set xs i v) (i + 1)
filled_more f xs i v h e g =
    below_more (λ k. get_or (set xs i v) k nan ≡ f k) i (λ k l. get_or-set_other xs i k v nan (ne_of_lt l) ∙ g k l) (get_or-set_same xs i v nan h ∙ e)

length_from : {A : Type 0} (n s : ℕ) (f : ℕ → A) → length (from s n f) ≡ n
unfolding from
length_from zero s f = refl
length_from (suc n) s f = ap suc (length_from n (suc s) f)

pub length_list_of : {A : Type 0} (n : ℕ) (f : ℕ → A) → length (list_of n f) ≡ n
unfolding list_of
length_list_of n f = length_from n 0 f

get_or_from : {A : Type 0} (n s : ℕ) (f : ℕ → A) (d : A) (k : ℕ) → k < n → get_or (from s n f) k d ≡ f (s + k)
unfolding from
get_or_from zero s f d k h = absurd (omega arith)
get_or_from (suc n) s f d zero h = ap f (sym (add-zero s))
get_or_from (suc n) s f d (suc k) h =
    let e : suc s + k ≡ s + suc k = omega arith in
    get_or_from n (suc s) f d k (omega arith) ∙ ap f e

pub get_or_list_of : {A : Type 0} (n : ℕ) (f : ℕ → A) (d : A) (k : ℕ) → k < n → get_or (list_of n f) k d ≡ f k
unfolding list_of
get_or_list_of n f d k h = get_or_from n 0 f d k h ∙ ap f (zero-add k)

-- a list that is filled to its end
pub filled_all : (f : ℕ → Float) (xs : List Float) (n : ℕ) → length xs ≡ n → Filled f xs n → xs ≡ list_of n f
filled_all f xs n e g =
    ext_get_or nan xs (list_of n f) (e ∙ sym (length_list_of n f)) (λ k h. let l : k < n = omega arith in g k l ∙ sym (get_or_list_of n f nan k l))

-- ---- the loop as a whole: after i turns out of n

pub record Fills (f : ℕ → Float) (xs : List Float) (n i : ℕ) : Type 0 where
  pub within : i ≤ n
  pub as_long : length xs ≡ n
  pub done : Filled f xs i

pub fills_none : (f : ℕ → Float) {xs : List Float} {n : ℕ} → length xs ≡ n → Fills f xs n 0
fills_none f {xs = xs} e = record { within = omega arith; as_long = e; done = filled_none f xs }

pub fills_more : {f : ℕ → Float} {xs : List Float} {n i : ℕ} {v : Float} → i < n → v ≡ f i → Fills f xs n i → Fills f (set xs i v) n (i + 1)
fills_more {xs = xs} {i = i} {v = v} h e l =
    let inside : i < length xs = omega (arith, l.as_long) in
    record { within = omega arith; as_long = length-set xs i v ∙ l.as_long; done = filled_more _ xs i v inside e l.done }

pub fills_all : {f : ℕ → Float} {xs : List Float} {n i : ℕ} → n ≤ i → Fills f xs n i → xs ≡ list_of n f
fills_all {f = f} {xs = xs} {n = n} {i = i} h l =
    let e : i ≡ n = omega (arith, l.within) in
    filled_all f xs n l.as_long (rw e at l.done)

-- ---- what is the same below n

pub list_of_same : (n : ℕ) (f g : ℕ → Float) → ((k : ℕ) → k < n → f k ≡ g k) → list_of n f ≡ list_of n g
list_of_same n f g h = filled_all g (list_of n f) n (length_list_of n f) (λ k l. get_or_list_of n f nan k l ∙ h k l)

pub sum_to_same : (n : ℕ) (f g : ℕ → Float) → ((k : ℕ) → k < n → f k ≡ g k) → sum_to f n ≡ sum_to g n
unfolding sum_to
sum_to_same zero f g h = refl
sum_to_same (suc n) f g h = ap₂ (λ (s t : Float). s ⊕ t) (sum_to_same n f g (λ k l. h k (omega arith))) (h n (omega arith))
