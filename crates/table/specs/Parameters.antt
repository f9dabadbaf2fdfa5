-- What the calls on a table are about (specification, section 3): the record, the six lists that a caller lends, and what a call does.
use Rattle.std.specs.Prelude.{ℕ, ◌≡◌, ◌*◌, List, [], length, T, Result, Float}
use Rattle.std.specs.Float.{binary32}
use Rattle.std.specs.Float.Ieee.{fits}
use Rattle.answers.specs.Answer.{Answer, value}
use Rattle.answers.specs.Refusal.{told}
use Rattle.answers.specs.declared.refusal.Refusal.{Refusal}
use Rattle.interpolation.specs.Checks.{max_rows, max_radii}
use Rattle.table.specs.declared.parameters.Record.{Record}
use Rattle.table.specs.declared.parameters.Lengths.{Lengths}
use Rattle.table.specs.declared.lists.Table.{Table}
use Rattle.table.specs.declared.lists.TableMut.{TableMut}
use Rattle.table.specs.declared.lists.Lent.{Lent}

-- ---- the record: N, M, g, eta

abbrev pub record_of : ℕ → ℕ → Float → Float → Record
record_of n m g eta = record { n = n; m = m; g = g; eta = eta }

-- its floats are values of binary32, as those of a record in the code are
pub record RecordHolds (r : Record) : Type 0 where
  pub g : T (fits binary32 r.g)
  pub eta : T (fits binary32 r.eta)

-- as many rows and radii as there can be
abbrev pub largest : Float → Float → Record
largest g eta = record_of max_rows max_radii g eta

-- ---- the six lists: albedo nodes, radius nodes, profile, effective albedos, CDF, marks; the names but the last are those of `BssrdfTable`

pub record Lists : Type 0 where
  pub rho_samples : List Float
  pub radius_samples : List Float
  pub profile : List Float
  pub rho_eff : List Float
  pub profile_cdf : List Float
  pub marks : List ℕ

abbrev pub lists : List Float → List Float → List Float → List Float → List Float → List ℕ → Lists
lists rho_samples radius_samples profile rho_eff profile_cdf marks = record {
  rho_samples = rho_samples;
  radius_samples = radius_samples;
  profile = profile;
  rho_eff = rho_eff;
  profile_cdf = profile_cdf;
  marks = marks;
}

abbrev pub lengths_of : Lists → Lengths
lengths_of t = record {
  rho_samples = length t.rho_samples;
  radius_samples = length t.radius_samples;
  profile = length t.profile;
  rho_eff = length t.rho_eff;
  profile_cdf = length t.profile_cdf;
  marks = length t.marks;
}

-- the lengths that a record's lists have
abbrev pub lengths_for : Record → Lengths
lengths_for r = record {
  rho_samples = r.n;
  radius_samples = r.m;
  profile = r.n * r.m;
  rho_eff = r.n;
  profile_cdf = r.n * r.m;
  marks = r.n;
}

-- what the code's tables hold: to be read, to be built, and to be started
abbrev pub lists_of : Table → Lists
lists_of t = lists t.rho_samples.now t.radius_samples.now t.profile.now t.rho_eff.now t.profile_cdf.now t.marks.now

abbrev pub lists_of_mut : TableMut → Lists
lists_of_mut t = lists t.rho_samples.now t.radius_samples.now t.profile.now t.rho_eff.now t.profile_cdf.now t.marks.now

abbrev pub lists_of_lent : Lent → Lists
lists_of_lent t = lists t.rho_samples.now t.radius_samples.now t.profile.now t.rho_eff.now t.profile_cdf.now t.marks.now

-- the same record and the same lists of the caller's, whatever a call has written in them
abbrev pub SameTable : TableMut → TableMut → Type 0
SameTable s t =
    (s.record ≡ t.record) × (s.rho_samples ≡ t.rho_samples) × (s.radius_samples ≡ t.radius_samples)
    × (s.profile.ghost_name ≡ t.profile.ghost_name) × (s.rho_eff.ghost_name ≡ t.rho_eff.ghost_name)
    × (s.profile_cdf.ghost_name ≡ t.profile_cdf.ghost_name) × (s.marks.ghost_name ≡ t.marks.ghost_name)

abbrev pub SameLent : Lent → Lent → Type 0
SameLent s t =
    (s.rho_samples.ghost_name ≡ t.rho_samples.ghost_name) × (s.radius_samples.ghost_name ≡ t.radius_samples.ghost_name)
    × (s.profile.ghost_name ≡ t.profile.ghost_name) × (s.rho_eff.ghost_name ≡ t.rho_eff.ghost_name)
    × (s.profile_cdf.ghost_name ≡ t.profile_cdf.ghost_name) × (s.marks.ghost_name ≡ t.marks.ghost_name)

-- ---- what a call does: its answer, and the six lists as it leaves them

pub record Effect : Type 0 where
  pub answer : Answer
  pub lists : Lists

abbrev pub effect : Answer → Lists → Effect
effect answer t = record { answer = answer; lists = t }

-- starting and building have no value beyond "done"
abbrev pub done : Answer
done = value [] []

unfoldable pub outcome_told : Result Unit Refusal → Answer
outcome_told = told (λ _. done)
