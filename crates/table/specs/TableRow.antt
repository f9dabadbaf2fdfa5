-- A row of a table as one value (specification, sections 3.3 and 6): where it stands in the six lists, what building and starting make of it, and the lists with another row in its place.
use Rattle.std.specs.Prelude.{ℕ, ◌*◌, List, get_or, set, take, drop, replicate, Float}
use Rattle.std.specs.Float.{nan}
use Rattle.elementary.specs.Notation.{lit}
use Rattle.table.specs.Parameters.{Lists}
use Rattle.table.specs.Row.{profile_row, cdf_row, effective_albedo, put}
use Rattle.table.specs.declared.parameters.Record.{Record}

-- its parts of the profile and of the CDF, its effective albedo and its mark
pub record TableRow : Type 0 where
  pub profile : List Float
  pub cdf : List Float
  pub albedo : Float
  pub mark : ℕ

-- row k, as it stands in the lists
unfoldable pub row_at : Record → Lists → ℕ → TableRow
row_at r t k = record {
  profile = take r.m (drop (k * r.m) t.profile);
  cdf = take r.m (drop (k * r.m) t.profile_cdf);
  albedo = get_or t.rho_eff k nan;
  mark = get_or t.marks k 0;
}

-- row i, as building gives it: by the record, the row's number and the two node lists alone; its albedo is node i
unfoldable pub built_row : Record → ℕ → List Float → List Float → TableRow
built_row r i rho_samples radius_samples =
    let rho = get_or rho_samples i nan in
    record { profile = profile_row r rho radius_samples; cdf = cdf_row r rho radius_samples; albedo = effective_albedo r rho radius_samples; mark = 1 }

-- a row that is not built, as starting gives it: +0 in each place, and mark 0
unfoldable pub empty_row : Record → TableRow
empty_row r = record { profile = replicate r.m (lit 0); cdf = replicate r.m (lit 0); albedo = lit 0; mark = 0 }

-- the six lists with this row as row i, its mark among it; every other place stays
unfoldable pub replaced : Record → ℕ → TableRow → Lists → Lists
replaced r i row t = record {
  rho_samples = t.rho_samples;
  radius_samples = t.radius_samples;
  profile = put (i * r.m) row.profile t.profile;
  rho_eff = set t.rho_eff i row.albedo;
  profile_cdf = put (i * r.m) row.cdf t.profile_cdf;
  marks = set t.marks i row.mark;
}
