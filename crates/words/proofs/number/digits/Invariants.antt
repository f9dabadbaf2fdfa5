-- the digits that are left stand, after n, for the number of all
use Rattle.std.proofs.Common.{◌≡◌, ◌<◌, ◌^◌, drop}
use Rattle.words.specs.Line.{digits_after}
use Rattle.words.proofs.number.digits.Given as goal

abbrev pub invariant-loop-c : goal.invariant-loop-c
invariant-loop-c g l = (digits_after g.row.BASE l.n (drop l.c-index l.word) ≡ digits_after g.row.BASE 0 l.word) × (l.n < g.row.BASE ^ l.c-index)
