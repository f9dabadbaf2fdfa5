-- the numbers so far, and those that are still to be read, are all of them
use Rattle.std.proofs.Common.{◌≡◌, ◌-◌, ◌++◌, length, take, option_map}
use Rattle.words.specs.Line.{left, nexts, after_words}
use Rattle.words.proofs.line.Line.numbers.Given as goal

abbrev pub invariant-loop-x : goal.invariant-loop-x
invariant-loop-x g l =
    (length l.x-items ≡ g.row.N)
    × (nexts g.T.Number.of_word g.row.N (left l.fn.self) ≡ option_map (λ xs. take l.x-index l.x-items ++ xs) (nexts g.T.Number.of_word (g.row.N - l.x-index) (left l.self)))
    × (after_words g.row.N (left l.fn.self) ≡ after_words (g.row.N - l.x-index) (left l.self))
