-- What holds of a query once the checks before 11 have passed: its needed rows exist, and 11 is no later answer. A row of nonzero weight is that of a node, and there are N albedo nodes (`sr_rows_lem` and the like). After 11, `sr` refuses by 12 alone, and a draw by 13 (`nan_number`, `value_or_13`).
-- A draw that ends under one allowance ends in the same way under a larger one (`sample_more`). Assumes nothing.
use mathlib.Core.Path.{◌≡◌, refl, sym, ap, ◌∙◌}
use mathlib.Core.Bool.{Bool, true, false, cond, not}
use mathlib.Core.Logic.{◌⊎◌, inl, inr}
use mathlib.Core.List.{[], ◌∷◌, ◌++◌}
use Prim.Native.Nat.{ℕ, ◌≤◌, ◌<◌}
use native.Mathlib.Omega.{arith}
use lib.Ieee.{Float, eq, neg}
use Rattle.elementary.specs.Notation.{lit}
use Rattle.answers.specs.Answer.{Answer, refusal, value, answered}
use Rattle.answers.specs.Checks.{first_of}
use Rattle.answers.proofs.Refusals.{first_none}
use Rattle.interpolation.specs.Sample.{sample_catmull_rom_2d}
use Rattle.interpolation.specs.Checks.{check9, check10}
use Rattle.interpolation.specs.declared.sample.Sample.{Sample}
use Rattle.std.specs.Prelude.{Option, Result, Err}
use Rattle.answers.specs.Refusal.{number, told}
use Rattle.answers.specs.declared.refusal.Refusal.{Refusal}
use Rattle.answers.specs.declared.refusal.Refusal.TheVariants.{Exhausted}
use Rattle.interpolation.proofs.Draws.{of_draw}
use Rattle.interpolation.proofs.Allowance as allowances
use Rattle.scattering.specs.Literals.{one}
use Rattle.scattering.specs.Spectrum.{channel, has_nans}
use Rattle.scattering.specs.Exitance.{spectrum_value}
use Rattle.scattering.specs.declared.spectrum.Spectrum.{Spectrum}
use Rattle.scattering.specs.declared.spectrum.RGBEnum.{RGBEnum}
use Rattle.scattering.specs.declared.spectrum.RGBEnum.TheVariants.{Red, Green, Blue}
use Rattle.table.specs.Parameters.{Lists}
use Rattle.table.specs.declared.parameters.Record.{Record}
use Rattle.bssrdf.specs.Coefficients.{sigma_t, rho}
use Rattle.bssrdf.specs.Axes.{albedo_weights, radius_weights}
use Rattle.bssrdf.specs.Needed.{rows_of, pdf_rows, sr_rows, sample_rows, among}
use Rattle.bssrdf.specs.Checks.{check12, query_number, draw_number}
use Rattle.bssrdf.specs.Question.{Question}
use Rattle.bssrdf.specs.Drawing.{drawn_value, divided_value, divided, drawn_at, sample_question, sample_sr}
use Rattle.bssrdf.specs.declared.coefficients.Coefficients.{Coefficients}
use Rattle.bssrdf.specs.declared.coefficients.WorldRadius.{WorldRadius}
use Rattle.bssrdf.proofs.AcceptedQueries.{query_accepted, two_rows}
use Rattle.bssrdf.proofs.NeededRows.{append_cases, rows_exist, both_among, unless_among}
use Rattle.bssrdf.proofs.Answering.{in_order, rows_built_lem}

-- ---- the rows exist

module _ (r : Record) (t : Lists) (c : Coefficients) (h : query_number r t c ≡ 0) (k : ℕ) where
  pub albedo_rows : (ch : RGBEnum) → among (rows_of (albedo_weights t c ch)) k ≡ true → k < r.n
  unfolding albedo_weights
  albedo_rows ch a =
      rw (sym (query_accepted r t c h).sizes.fits.rho_fits) (rows_exist t.rho_samples (channel (rho c) ch) (two_rows r t c h) k a)

  pub sample_rows_lem : (ch : RGBEnum) → among (sample_rows t ch c) k ≡ true → k < r.n
  unfolding sample_rows
  sample_rows_lem ch a = albedo_rows ch (unless_among (eq (channel (sigma_t c) ch) (lit 0)) _ k a)

  pub pdf_rows_lem : (ch : RGBEnum) (x : WorldRadius) → among (pdf_rows t ch c x) k ≡ true → k < r.n
  unfolding pdf_rows
  pdf_rows_lem ch x a = albedo_rows ch (both_among (albedo_weights t c ch) (radius_weights t c x ch) k a)

  pub sr_rows_lem : (x : WorldRadius) → among (sr_rows t c x) k ≡ true → k < r.n
  unfolding sr_rows
  sr_rows_lem x a = elim (append_cases (pdf_rows t Red c x) (pdf_rows t Green c x ++ pdf_rows t Blue c x) k a) [
    | inl b ↦ pdf_rows_lem Red x b
    | inr b ↦ elim (append_cases (pdf_rows t Green c x) (pdf_rows t Blue c x) k b) [ inl d ↦ pdf_rows_lem Green x d | inr d ↦ pdf_rows_lem Blue x d ]
  ]

-- ---- no answer after check 11 is 11

-- `sr` may refuse by 12
pub nan_number : (s out : Spectrum) → (answered (check12 s) (spectrum_value out)).number ≡ 11 → ⊥
unfolding check12 answered
nan_number s out = go (has_nans s)
  where
    go : (b : Bool) → (answered (cond (not b) 0 12) (spectrum_value out)).number ≡ 11 → ⊥
    go true h = omega arith
    go false h = omega arith

-- a draw by 13, or it is a value
abbrev pub ValueOr13 : Answer → Type 0
ValueOr13 a = (a ≡ value a.floats a.wholes) ⊎ (a ≡ refusal 13)

pub value_or_13 : (t : Lists) (ch : RGBEnum) (c : Coefficients) (u : Float) (allowance : ℕ) → ValueOr13 (drawn_at t ch c u allowance)
unfolding drawn_at divided divided_value told number
value_or_13 t ch c u allowance = go (eq sigma (lit 0))
  where
    sigma : Float
    sigma = channel (sigma_t c) ch

    sample : Result (Option Sample) Refusal
    sample = sample_catmull_rom_2d t.rho_samples t.radius_samples t.profile t.profile_cdf (channel (rho c) ch) u allowance

    go : (b : Bool) → ValueOr13 (cond b (drawn_value (neg one) 0) (divided sigma sample))
    go true = inl refl
    go false = of_draw (λ s. ValueOr13 (divided sigma s)) (λ s. inl refl) (inl refl) (inr refl) _ _ _ _ _ u allowance

pub drawn_number : (t : Lists) (ch : RGBEnum) (c : Coefficients) (u : Float) (allowance : ℕ) → (drawn_at t ch c u allowance).number ≡ 11 → ⊥
drawn_number t ch c u allowance h =
    elim (value_or_13 t ch c u allowance) [
      | inl e ↦ omega (arith, ap (λ (a : Answer). a.number) e, h)
      | inr e ↦ omega (arith, ap (λ (a : Answer). a.number) e, h)
    ]

-- ---- a larger allowance

drawn_more : (t : Lists) (ch : RGBEnum) (c : Coefficients) (u : Float) (allowance other : ℕ) → (drawn_at t ch c u allowance).refused ≡ false → allowance ≤ other → drawn_at t ch c u other ≡ drawn_at t ch c u allowance
unfolding drawn_at divided divided_value told number
drawn_more t ch c u allowance other h l = go (eq sigma (lit 0)) h
  where
    sigma : Float
    sigma = channel (sigma_t c) ch

    sample : ℕ → Result (Option Sample) Refusal
    sample = sample_catmull_rom_2d t.rho_samples t.radius_samples t.profile t.profile_cdf (channel (rho c) ch) u

    not_13 : (divided sigma (sample allowance)).refused ≡ false → sample allowance ≡ Err Exhausted → ⊥
    not_13 h e = cc

    go : (b : Bool) → (cond b (drawn_value (neg one) 0) (divided sigma (sample allowance))).refused ≡ false
        → cond b (drawn_value (neg one) 0) (divided sigma (sample other)) ≡ cond b (drawn_value (neg one) 0) (divided sigma (sample allowance))
    go true h = refl
    go false h = ap (divided sigma) (allowances.sample_more t.rho_samples t.radius_samples t.profile t.profile_cdf _ u allowance other (not_13 h) l)

pub sample_more : (r : Record) (t : Lists) (ch : RGBEnum) (c : Coefficients) (u : Float) (allowance other : ℕ)
    → (sample_sr r t ch c u allowance).refused ≡ false → allowance ≤ other → check10 other ≡ 0 → sample_sr r t ch c u other ≡ sample_sr r t ch c u allowance
unfolding sample_sr sample_question draw_number first_of
sample_more r t ch c u allowance other h l k =
    let q : ℕ → Question = λ n. sample_question r ch c u n t in
    let p = in_order t.marks (q allowance) h in
    let b = first_none (query_number r t c) (check9 u ∷ check10 allowance ∷ []) p.0 in
    let d = first_none (check9 u) (check10 allowance ∷ []) b.1 in
    let m : (q other).order ≡ 0 = rw (b.0, d.0, k) in
    let e : sample_sr r t ch c u allowance ≡ drawn_at t ch c u allowance = rows_built_lem t.marks (q allowance) p.0 p.1 in
    rows_built_lem t.marks (q other) m p.1 ∙ drawn_more t ch c u allowance other (rw e at h) l ∙ sym e
