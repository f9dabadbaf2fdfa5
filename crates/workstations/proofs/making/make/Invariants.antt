-- after j calls the lists and the first j answers are those of the run of the first j; the answers past the last call are as they were, and the table is the one that was lent
use Rattle.std.proofs.Common.{◌≡◌, drop}
use Rattle.table.specs.Parameters.{lists_of_mut, SameTable}
use Rattle.workstations.proofs.Batches.{Made}
use Rattle.workstations.proofs.making.make.Given as goal

abbrev pub invariant-loop-j : goal.invariant-loop-j
invariant-loop-j l = record {
  made : Made l.initial.t.record (lists_of_mut l.initial.t) l.calls l.answers (lists_of_mut l.t) l.j;
  rest : drop l.count l.answers ≡ drop l.count l.initial.answers;
  same : SameTable l.initial.t l.t;
}
