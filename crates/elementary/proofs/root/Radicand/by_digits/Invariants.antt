-- the d digits that are left to set, from g on, give the root, and 24 digits hold it
use Rattle.std.proofs.Common.{◌≡◌, ◌+◌, ◌^◌, ◌≤◌}
use Rattle.elementary.specs.Root.{digits, nearest_root}
use Rattle.elementary.proofs.root.Radicand.by_digits.Given as goal

abbrev pub invariant-loop-d : goal.invariant-loop-d
invariant-loop-d l = (l.g + 2 ^ l.d ≤ 2 ^ 24) × (digits l.d l.self.n l.g ≡ nearest_root l.self.n)
