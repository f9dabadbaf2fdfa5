-- The laws of queries: what holds of the definitions, beyond what they say. `QueryLaws`, at the end, is the contract of a function, `laws`; what stands before it are its words.
use Rattle.std.specs.Prelude.{ℕ, ◌≤◌, ◌<◌, ◌≡◌, ◌↔◌, Bool, true, false, List, Float}
use Rattle.answers.specs.Answer.{refusal}
use Rattle.interpolation.specs.Checks.{check10}
use Rattle.interpolation.specs.Laws.{Holds}
use Rattle.scattering.specs.declared.spectrum.RGBEnum.{RGBEnum}
use Rattle.table.specs.Parameters.{Lists, lengths_of}
use Rattle.table.specs.TableRow.{row_at}
use Rattle.table.specs.Sets.{Rows, no_rows}
use Rattle.table.specs.declared.parameters.Record.{Record}
use Rattle.bssrdf.specs.Needed.{is_marked, all_marked, among}
use Rattle.bssrdf.specs.Question.{Question, posed}
use Rattle.bssrdf.specs.Radiance.{sr_question}
use Rattle.bssrdf.specs.Density.{pdf_question}
use Rattle.bssrdf.specs.Drawing.{sample_question, sample_sr}
use Rattle.bssrdf.specs.declared.coefficients.Coefficients.{Coefficients}
use Rattle.bssrdf.specs.declared.coefficients.WorldRadius.{WorldRadius}

-- two tables that are alike in the rows of a set: the same nodes and lengths, and each of these rows, as far as there are N, the same; whatever the other rows hold
pub record Alike (r : Record) (S : Rows) (s t : Lists) : Type 0 where
  pub rho : s.rho_samples ≡ t.rho_samples
  pub radii : s.radius_samples ≡ t.radius_samples
  pub lengths : lengths_of s ≡ lengths_of t
  pub row : (k : ℕ) → k < r.n → S k ≡ true → row_at r s k ≡ row_at r t k

-- each node is a value of binary32, as those of a `&[f32]` are
pub record NodesHold (t : Lists) : Type 0 where
  pub rho : Holds t.rho_samples
  pub radii : Holds t.radius_samples

-- and whether that is supposed of a table
abbrev pub Supposed : Bool → Lists → Type 0
Supposed true t = NodesHold t
Supposed false t = Unit

-- a row among these is not marked built
abbrev pub Missing : List ℕ → List ℕ → Type 0
Missing marks rows = (k : ℕ) × (among rows k ≡ true) × (is_marked marks k ≡ false)

-- what makes the laws below hold of a query; `held` says whether the nodes are supposed to be values of binary32
pub record Asks (r : Record) (held : Bool) (q : Lists → Question) : Type 0 where
  -- its checks before 11 read nodes and lengths alone
  pub order_same : (s t : Lists) → Alike r no_rows s t → (q s).order ≡ (q t).order
  -- where they pass, which rows it needs, and what it answers, depend on these rows alone
  pub rows_same : (s t : Lists) → Supposed held s → (q s).order ≡ 0 → Alike r (among (q s).rows) s t → (q s).rows ≡ (q t).rows
  pub built_same : (s t : Lists) → Supposed held s → (q s).order ≡ 0 → Alike r (among (q s).rows) s t → (q s).built ≡ (q t).built
  -- each of these rows is one of the N
  pub rows_exist : (t : Lists) → (q t).order ≡ 0 → (k : ℕ) → among (q t).rows k ≡ true → k < r.n
  -- and where all of them are marked built, 11 is not the answer
  pub not_11 : (t : Lists) → (q t).order ≡ 0 → all_marked t.marks (q t).rows ≡ true → (q t).built ≡ refusal 11 → ⊥

-- ---- the laws

pub record QueryLaws : Type 0 where
  -- the three queries have it: `sr` where the nodes are supposed to be values of binary32, so that no weight is infinite, and the other two either way
  pub sr_asks : (r : Record) (c : Coefficients) (x : WorldRadius) → Asks r true (sr_question r c x)
  pub pdf_asks : (r : Record) (held : Bool) (ch : RGBEnum) (c : Coefficients) (x : WorldRadius) → Asks r held (pdf_question r ch c x)
  pub sample_asks : (r : Record) (held : Bool) (ch : RGBEnum) (c : Coefficients) (u : Float) (allowance : ℕ) → Asks r held (sample_question r ch c u allowance)
  -- a query depends on the rows that it needs alone: its answer is the same on tables alike in these
  pub same : (r : Record) (held : Bool) (q : Lists → Question) → Asks r held q → (s t : Lists) → Supposed held s → Alike r (among (q s).rows) s t → posed s.marks (q s) ≡ posed t.marks (q t)
  -- where no check before 11 refuses, and 11 is not the answer once all needed rows are marked built, 11 is given exactly if one of them isn't
  pub missing : (marks : List ℕ) (q : Question) → q.order ≡ 0 → (all_marked marks q.rows ≡ true → q.built ≡ refusal 11 → ⊥) → (posed marks q ≡ refusal 11) ↔ Missing marks q.rows
  -- a value was refused by no check: none before 11, nor 11 itself
  pub in_order : (marks : List ℕ) (q : Question) → (posed marks q).refused ≡ false → (q.order ≡ 0) × (all_marked marks q.rows ≡ true)
  -- a value drawn under one allowance is the answer under every larger one that check 10 accepts
  pub sample_more : (r : Record) (t : Lists) (ch : RGBEnum) (c : Coefficients) (u : Float) (allowance other : ℕ)
      → (sample_sr r t ch c u allowance).refused ≡ false → allowance ≤ other → check10 other ≡ 0 → sample_sr r t ch c u other ≡ sample_sr r t ch c u allowance
