-- Building row i (specification, section 6), from the nodes as they are lent: its part of the profile and of the CDF, its effective albedo and its mark; every other place stays.
use Rattle.std.specs.Prelude.{ℕ}
use Rattle.answers.specs.Answer.{answered, written}
use Rattle.table.specs.Parameters.{Lists, Effect, lengths_of, effect, done}
use Rattle.table.specs.Checks.{build_number}
use Rattle.table.specs.TableRow.{built_row, replaced}
use Rattle.table.specs.declared.parameters.Record.{Record}

-- the six lists with row i built
unfoldable pub built : Record → ℕ → Lists → Lists
built r i t = replaced r i (built_row r i t.rho_samples t.radius_samples) t

unfoldable pub build : Record → ℕ → Lists → Effect
build r i t =
    let number = build_number r i t.rho_samples t.radius_samples (lengths_of t) in
    effect (answered number done) (written number (built r i t) t)
