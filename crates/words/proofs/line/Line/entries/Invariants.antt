-- the entries so far, and those that are still to be read, are all of them
use Rattle.std.proofs.Common.{◌≡◌, ◌-◌, ◌++◌, length, option_map}
use Rattle.words.specs.Line.{left, entry, to_end}
use Rattle.words.proofs.line.Line.entries.Given as goal

abbrev pub invariant-loop : goal.invariant-loop
invariant-loop g l =
    (length l.all.items ≡ l.counter)
    × (to_end (entry g.T.Entry.of_bits) 64 (left l.fn.self) ≡ option_map (λ xs. l.all.items ++ xs) (to_end (entry g.T.Entry.of_bits) (64 - l.counter) (left l.self)))
