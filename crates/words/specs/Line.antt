-- The words of a line, and what they stand for. A text is a list of bytes, and what is left of a line is a text or, at its end, `None`.
use Rattle.std.specs.Prelude.{ℕ, zero, suc, ◌+◌, ◌-◌, ◌*◌, ◌^◌, Bool, ◌&&◌, eqb, ltb, leb, List, [], ◌∷◌, length, drop, position, if◌then◌else◌, Option, Some, None, is_none, option_map, option_and_then, option_copied, Float, from_bits}
use Rattle.std.specs.List.{before_first}
use Rattle.std.specs.Float.{binary32, binary64}
use Rattle.words.specs.declared.line.Line.{Line}

-- ---- words

-- what follows the word that was read last
abbrev pub left : Line → Option (List ℕ)
left line = option_copied line.rest

abbrev pub is_space : ℕ → Bool
is_space c = eqb c 32

-- the next word: the text up to the first space
abbrev pub word : Option (List ℕ) → Option (List ℕ)
word text = option_map (before_first is_space) text

-- what follows that space
abbrev pub after : Option (List ℕ) → Option (List ℕ)
after text = option_and_then (λ t. option_map (λ i. drop (i + 1) t) (position is_space t)) text

-- the same after n words
abbrev pub after_words : ℕ → Option (List ℕ) → Option (List ℕ)
after_words zero text = text
after_words (suc n) text = after_words n (after text)

-- ---- numbers

-- a digit's value, and 16 for what is none
abbrev pub digit_value : ℕ → ℕ
digit_value c = if leb 48 c && leb c 57 then c - 48 else if leb 97 c && leb c 102 then c - 97 + 10 else 16

-- its value, if it is one of the base
abbrev pub digit : ℕ → ℕ → Option ℕ
digit base c = if ltb (digit_value c) base then Some (digit_value c) else None

-- the number that digits stand for, after those that stand for n
abbrev pub digits_after : ℕ → ℕ → List ℕ → Option ℕ
digits_after base n [] = Some n
digits_after base n (c ∷ cs) = option_and_then (λ d. digits_after base (base * n + d) cs) (digit base c)

abbrev pub digits : ℕ → List ℕ → Option ℕ
digits base cs = digits_after base 0 cs

-- an INT
abbrev pub int : List ℕ → Option ℕ
int cs =
    if ltb 0 (length cs) && leb (length cs) 10
    then option_and_then (λ n. if ltb n (2 ^ 32) then Some n else None) (digits 10 cs) else None

-- a BITS of so many digits
abbrev pub bits : ℕ → List ℕ → Option ℕ
bits count cs = if eqb (length cs) count then digits 16 cs else None

-- ---- what a word stands for

-- an entry, by what its 8 digits stand for
abbrev pub entry : {T : Type 0} → (ℕ → Option T) → List ℕ → Option T
entry of_bits cs = option_and_then of_bits (bits 8 cs)

abbrev pub float : List ℕ → Option Float
float cs = option_map (from_bits binary32) (bits 8 cs)

abbrev pub double : List ℕ → Option Float
double cs = option_map (from_bits binary64) (bits 16 cs)

-- the next word, as f reads it
abbrev pub next : {A : Type 0} → (List ℕ → Option A) → Option (List ℕ) → Option A
next f text = option_and_then f (word text)

-- the next n words, and nothing where one is malformed
abbrev pub nexts : {A : Type 0} → (List ℕ → Option A) → ℕ → Option (List ℕ) → Option (List A)
nexts f zero text = Some []
nexts f (suc n) text = option_and_then (λ x. option_map (λ xs. x ∷ xs) (nexts f n (after text))) (next f text)

-- the words to the line's end, as f reads them, and nothing where one is malformed or they are more than so many
abbrev pub to_end : {A : Type 0} → (List ℕ → Option A) → ℕ → Option (List ℕ) → Option (List A)
to_end f zero text = None
to_end f (suc most) text =
    option_and_then (λ x. if is_none (after text) then Some (x ∷ []) else option_map (λ xs. x ∷ xs) (to_end f most (after text))) (next f text)
