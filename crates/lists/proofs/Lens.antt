-- Where the names or the numbers have come to their end, no more is asked and nothing more is set.
use Rattle.std.proofs.Common.{◌≡◌, ℕ, true, List, [], ◌∷◌, length, refl}
use Rattle.std.proofs.lemmas.List.{nil_from_length}
use Rattle.lists.specs.Lists.{within, set_lens}
use Rattle.lists.specs.declared.name.Name.{Name}
use Rattle.lists.specs.declared.lines.Lists.{Lists}

pub no_names_within : (names : List Name) (ns : List ℕ) → length names ≡ 0 → true ≡ within names ns
no_names_within names ns e = rw (nil_from_length names e) refl

pub no_numbers_within : (names : List Name) (ns : List ℕ) → length ns ≡ 0 → true ≡ within names ns
no_numbers_within [] ns e = refl
no_numbers_within (name ∷ names) ns e = rw (nil_from_length ns e) refl

pub no_names_set : (names : List Name) (ns : List ℕ) (l : Lists) → length names ≡ 0 → l ≡ set_lens names ns l
no_names_set names ns l e = rw (nil_from_length names e) refl

pub no_numbers_set : (names : List Name) (ns : List ℕ) (l : Lists) → length ns ≡ 0 → l ≡ set_lens names ns l
no_numbers_set [] ns l e = refl
no_numbers_set (name ∷ names) ns l e = rw (nil_from_length ns e) refl
