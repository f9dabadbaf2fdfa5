-- Starting a table (specification, section 5): the nodes of the record, and all else is zero.
use Rattle.std.specs.Prelude.{◌*◌, replicate}
use Rattle.elementary.specs.Notation.{lit}
use Rattle.answers.specs.Answer.{answered, written}
use Rattle.table.specs.Parameters.{Lists, Effect, lengths_of, effect, done}
use Rattle.table.specs.Checks.{start_number}
use Rattle.table.specs.Nodes.{rho_samples, radius_samples}
use Rattle.table.specs.declared.parameters.Record.{Record}

-- the six lists of a started table
unfoldable pub started : Record → Lists
started r = record {
  rho_samples = rho_samples r;
  radius_samples = radius_samples r;
  profile = replicate (r.n * r.m) (lit 0);
  rho_eff = replicate r.n (lit 0);
  profile_cdf = replicate (r.n * r.m) (lit 0);
  marks = replicate r.n 0;
}

unfoldable pub start : Record → Lists → Effect
start r t =
    let number = start_number r (lengths_of t) in
    effect (answered number done) (written number (started r) t)
