-- One word more is read: what it stands for is set behind what the others so far do, and the rest follows.
use Rattle.std.proofs.Common.{◌≡◌, ℕ, suc, ◌+◌, ◌-◌, ◌<◌, List, [], ◌∷◌, ◌++◌, length, take, set, Option, Some, None, Bool, true, false, cond, not, Bor, is_some, is_none, option_copied, option_map, option_and_then, refl, sym, ap, ◌∙◌, arith}
use Rattle.std.proofs.lemmas.List.{take_more_set, append_assoc}
use Rattle.words.specs.Line.{after, after_words, next, nexts, to_end}

-- one turn fewer is left
fewer : (n i : ℕ) → i < n → n - i ≡ suc (n - (i + 1))
fewer n i inside = omega arith

-- x stands behind xs, and the others follow it
joined : {A : Type 0} (xs with_x : List A) (x : A) (o : Option (List A)) → with_x ≡ xs ++ x ∷ [] → option_map (λ ys. xs ++ ys) (option_map (λ ys. x ∷ ys) o) ≡ option_map (λ ys. with_x ++ ys) o
joined xs with_x x None e = refl
joined xs with_x x (Some ys) e = ap Some (sym (ap (λ l. l ++ ys) e ∙ append_assoc xs (x ∷ []) ys))

pub one_more : {A : Type 0} → (f : List ℕ → Option A) (n i : ℕ) (all text rest : Option (List ℕ)) (xs : List A) (x : A) → i < n → length xs ≡ n
    → Some x ≡ next f text → rest ≡ after text
    → nexts f n all ≡ option_map (λ ys. take i xs ++ ys) (nexts f (n - i) text)
    → nexts f n all ≡ option_map (λ ys. take (i + 1) (set xs i x) ++ ys) (nexts f (n - (i + 1)) rest)
one_more f n i all text rest xs x inside len here moved so_far =
    so_far
    ∙ ap (λ k. option_map (λ ys. take i xs ++ ys) (nexts f k text)) (fewer n i inside)
    ∙ ap (λ o. option_map (λ ys. take i xs ++ ys) (option_and_then (λ y. option_map (λ ys. y ∷ ys) (nexts f (n - (i + 1)) (after text))) o)) (sym here)
    ∙ joined (take i xs) (take (i + 1) (set xs i x)) x (nexts f (n - (i + 1)) (after text)) (take_more_set xs i x (omega arith))
    ∙ ap (λ o. option_map (λ ys. take (i + 1) (set xs i x) ++ ys) (nexts f (n - (i + 1)) o)) (sym moved)

-- and one word fewer is left
pub one_word : (n i : ℕ) (all text rest : Option (List ℕ)) → i < n → rest ≡ after text
    → after_words n all ≡ after_words (n - i) text → after_words n all ≡ after_words (n - (i + 1)) rest
one_word n i all text rest inside moved so_far =
    so_far ∙ ap (λ k. after_words k text) (fewer n i inside) ∙ ap (after_words (n - (i + 1))) (sym moved)

-- ---- to the line's end

-- what the word that is read now makes of the rest, by whether it is the last
abbrev turn : {A : Type 0} → (List ℕ → Option A) → ℕ → Option (List ℕ) → List A → A → Bool → Option (List A)
turn f k text xs x ended = option_map (λ ys. xs ++ ys) (cond ended (Some (x ∷ [])) (option_map (λ ys. x ∷ ys) (to_end f k (after text))))

at_turn : {A : Type 0} (f : List ℕ → Option A) (n most : ℕ) (all text rest : Option (List ℕ)) (xs : List A) (x : A) (ended : Bool) → n < most
    → Some x ≡ next f text → rest ≡ after text → is_none rest ≡ ended
    → to_end f most all ≡ option_map (λ ys. xs ++ ys) (to_end f (most - n) text)
    → to_end f most all ≡ turn f (most - (n + 1)) text xs x ended
at_turn f n most all text rest xs x ended inside here moved e so_far =
    so_far
    ∙ ap (λ k. option_map (λ ys. xs ++ ys) (to_end f k text)) (fewer most n inside)
    ∙ ap (λ o. option_map (λ ys. xs ++ ys) (option_and_then (λ y. cond (is_none (after text)) (Some (y ∷ [])) (option_map (λ ys. y ∷ ys) (to_end f (most - (n + 1)) (after text)))) o)) (sym here)
    ∙ ap (turn f (most - (n + 1)) text xs x) (ap is_none (sym moved) ∙ e)

-- the word after those so far is not the last
pub further : {A : Type 0} (f : List ℕ → Option A) (n most : ℕ) (all text rest : Option (List ℕ)) (xs with_x : List A) (x : A) → n < most
    → Some x ≡ next f text → rest ≡ after text → is_none rest ≡ false → with_x ≡ xs ++ x ∷ []
    → to_end f most all ≡ option_map (λ ys. xs ++ ys) (to_end f (most - n) text)
    → to_end f most all ≡ option_map (λ ys. with_x ++ ys) (to_end f (most - (n + 1)) rest)
further f n most all text rest xs with_x x inside here moved more behind so_far =
    at_turn f n most all text rest xs x false inside here moved more so_far
    ∙ joined xs with_x x (to_end f (most - (n + 1)) (after text)) behind
    ∙ ap (λ t. option_map (λ ys. with_x ++ ys) (to_end f (most - (n + 1)) t)) (sym moved)

-- or it is
pub the_last : {A : Type 0} (f : List ℕ → Option A) (n most : ℕ) (all text rest : Option (List ℕ)) (xs with_x : List A) (x : A) → n < most
    → Some x ≡ next f text → rest ≡ after text → is_none rest ≡ true → with_x ≡ xs ++ x ∷ []
    → to_end f most all ≡ option_map (λ ys. xs ++ ys) (to_end f (most - n) text)
    → Some with_x ≡ to_end f most all
the_last f n most all text rest xs with_x x inside here moved ended behind so_far =
    ap Some behind ∙ sym (at_turn f n most all text rest xs x true inside here moved ended so_far)

-- whether anything is left
pub nothing_left : (o : Option (Bor (List ℕ))) (b : Bool) → is_some o ≡ b → is_none (option_copied o) ≡ not b
nothing_left None b e = ap not e
nothing_left (Some t) b e = ap not e
