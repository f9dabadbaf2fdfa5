-- A channel by whether its albedo, and its optical radius, lies within the nodes: which rows it needs, its density or draw, and so what `pdf_sr` and `sample_sr` answer. Assumes nothing.
use mathlib.Core.Path.{◌≡◌, refl, sym, ap, ◌∙◌}
use mathlib.Core.Bool.{Bool, true, false, cond, ◌&&◌}
use mathlib.Core.List.{List, [], ◌∷◌}
use Prim.Native.Nat.{ℕ}
use lib.Ieee.{Float, eq, neg}
use Rattle.elementary.specs.Notation.{◌⊘◌, lit}
use Rattle.interpolation.specs.Interval.{node_interval}
use Rattle.interpolation.specs.Weights.{four_at, offset_of, within, catmull_rom_weights}
use Rattle.interpolation.specs.Sample.{draw, some_drawn, draw_from, sample_catmull_rom_2d}
use Rattle.interpolation.specs.declared.weights.Four.{Four}
use Rattle.interpolation.specs.declared.weights.Weights.{Weights}
use Rattle.interpolation.specs.declared.sample.Sample.{Sample}
use Rattle.std.specs.Prelude.{Option, Some, None, Result, Ok, Err}
use Rattle.interpolation.proofs.Finite.{and_left, and_right}
use Rattle.answers.specs.Answer.{Answer, refusal, value}
use Rattle.answers.specs.Refusal.{number, told}
use Rattle.answers.specs.declared.refusal.Refusal.{Refusal}
use Rattle.scattering.specs.Literals.{one}
use Rattle.scattering.specs.Spectrum.{channel}
use Rattle.scattering.specs.declared.spectrum.RGBEnum.{RGBEnum}
use Rattle.table.specs.Parameters.{Lists}
use Rattle.table.specs.declared.parameters.Record.{Record}
use Rattle.bssrdf.specs.Coefficients.{sigma_t, rho}
use Rattle.bssrdf.specs.Axes.{optical_radius, albedo_weights, radius_weights}
use Rattle.bssrdf.specs.Needed.{weighted_rows, rows_of, rows_of_both, pdf_rows, sample_rows, all_marked}
use Rattle.bssrdf.specs.Checks.{draw_number}
use Rattle.bssrdf.specs.Density.{density_of, density_at, pdf_question, pdf_sr}
use Rattle.bssrdf.specs.Drawing.{drawn_value, divided_value, divided, drawn_at, sample_question, sample_sr}
use Rattle.bssrdf.specs.declared.coefficients.Coefficients.{Coefficients}
use Rattle.bssrdf.specs.declared.coefficients.WorldRadius.{WorldRadius}
use Rattle.bssrdf.proofs.Answering.{row_missing, rows_built_lem}
use Rattle.bssrdf.proofs.TwoParts.{rows_part, radii_part, draw_part, query_parts, draw_parts, by_first, by_second, both_pass}
use Rattle.bssrdf.proofs.Channels.{outside, rows_zero, density_zero}

module _ (r : Record) (t : Lists) (ch : RGBEnum) (c : Coefficients) where
  -- its albedo, the interval of that, and the weights there
  abbrev a : Float
  a = channel (rho c) ch

  abbrev i : ℕ
  i = node_interval t.rho_samples a

  abbrev f : Four
  f = four_at t.rho_samples a i

  abbrev W : Weights
  W = record { offset = offset_of i; four = f }

  -- what the code has of it
  pub weights_are : {nodes : List Float} {v : Float} {k : ℕ} {g : Four} → nodes ≡ t.rho_samples → v ≡ a → k ≡ node_interval nodes v → g ≡ four_at nodes v k → record { offset = offset_of k; four = g } ≡ W
  weights_are l e p q = rw (q, p, l, e)

  -- ---- density

  module _ (x : WorldRadius) where
    abbrev b : Float
    b = (optical_radius c x ch).0

    abbrev j : ℕ
    j = node_interval t.radius_samples b

    abbrev g : Four
    g = four_at t.radius_samples b j

    abbrev V : Weights
    V = record { offset = offset_of j; four = g }

    abbrev p : Bool
    p = within t.rho_samples a

    abbrev q : Bool
    q = within t.radius_samples b

    pub rows_inside : (p && q) ≡ true → pdf_rows t ch c x ≡ weighted_rows (offset_of i) f
    unfolding pdf_rows albedo_weights radius_weights catmull_rom_weights rows_of_both rows_of
    rows_inside e = λ k. rows_of_both (cond (and_left p q e k) (Some W) None) (cond (and_right p q e k) (Some V) None)

    pub rows_outside : (p && q) ≡ false → pdf_rows t ch c x ≡ []
    unfolding pdf_rows albedo_weights radius_weights catmull_rom_weights
    rows_outside = outside rows_of_both [] rows_zero _ _ p q

    -- the density by the weights
    abbrev density : Option Weights → Option Weights → Float
    density = density_of t.profile t.rho_eff r.m (channel (sigma_t c) ch) (optical_radius c x ch)

    pub density_inside : (p && q) ≡ true → density_at r t ch c x ≡ density (Some W) (Some V)
    unfolding density_at albedo_weights radius_weights catmull_rom_weights
    density_inside e = λ k. density (cond (and_left p q e k) (Some W) None) (cond (and_right p q e k) (Some V) None)

    pub density_outside : (p && q) ≡ false → density_at r t ch c x ≡ lit 0
    unfolding density_at albedo_weights radius_weights catmull_rom_weights
    density_outside = outside density (lit 0) (density_zero _ _ _ _ _) _ _ p q

    -- ---- `pdf_sr`, by the two parts of the checks before 11 and, where these pass, by the channel

    pub pdf_first : (e : Refusal) → number e ≡ rows_part r t → refusal (number e) ≡ pdf_sr r t ch c x
    unfolding pdf_sr pdf_question
    pdf_first = by_first _ _ _ _ (query_parts r t c)

    pub pdf_second : (e : Refusal) → rows_part r t ≡ 0 → number e ≡ radii_part t c → refusal (number e) ≡ pdf_sr r t ch c x
    unfolding pdf_sr pdf_question
    pdf_second = by_second _ _ _ _ (query_parts r t c)

    pub pdf_outside : rows_part r t ≡ 0 → radii_part t c ≡ 0 → (p && q) ≡ false → pdf_sr r t ch c x ≡ value (lit 0 ∷ []) []
    unfolding pdf_sr pdf_question all_marked
    pdf_outside y z e = rows_built_lem _ _ (both_pass (query_parts r t c) y z) (rw (rows_outside e)) ∙ ap (λ (v : Float). value (v ∷ []) []) (density_outside e)

    pub pdf_missing : rows_part r t ≡ 0 → radii_part t c ≡ 0 → (p && q) ≡ true → all_marked t.marks (weighted_rows (offset_of i) f) ≡ false → pdf_sr r t ch c x ≡ refusal 11
    unfolding pdf_sr pdf_question
    pdf_missing y z e m = row_missing _ _ (both_pass (query_parts r t c) y z) (rw (rows_inside e) m)

    pub pdf_inside : rows_part r t ≡ 0 → radii_part t c ≡ 0 → (p && q) ≡ true → all_marked t.marks (weighted_rows (offset_of i) f) ≡ true
        → pdf_sr r t ch c x ≡ value (density (Some W) (Some V) ∷ []) []
    unfolding pdf_sr pdf_question
    pdf_inside y z e m = rows_built_lem _ _ (both_pass (query_parts r t c) y z) (rw (rows_inside e) m) ∙ ap (λ (v : Float). value (v ∷ []) []) (density_inside e)

  -- ---- a draw

  pub clear_rows : eq (channel (sigma_t c) ch) (lit 0) ≡ true → sample_rows t ch c ≡ []
  unfolding sample_rows
  clear_rows e = rw e

  pub clear_drawn : (u : Float) (allowance : ℕ) → eq (channel (sigma_t c) ch) (lit 0) ≡ true → drawn_at t ch c u allowance ≡ drawn_value (neg one) 0
  unfolding drawn_at
  clear_drawn u allowance e = rw e

  pub drawn_rows : eq (channel (sigma_t c) ch) (lit 0) ≡ false → (p : Bool) → within t.rho_samples a ≡ p → sample_rows t ch c ≡ cond p (weighted_rows (offset_of i) f) []
  unfolding sample_rows albedo_weights catmull_rom_weights rows_of
  drawn_rows e p w = rw e (ap (λ (q : Bool). rows_of (cond q (Some W) None)) w ∙ chosen p)
    where
      chosen : (p : Bool) → rows_of (cond p (Some W) None) ≡ cond p (weighted_rows (offset_of i) f) []
      chosen true = refl
      chosen false = refl

  -- the draw by the weights
  abbrev drawn : ℕ → Float → Option Weights → Answer
  drawn allowance u w = divided (channel (sigma_t c) ch) (draw_from t.radius_samples t.profile t.profile_cdf w u allowance)

  pub drawn_inside : (u : Float) (allowance : ℕ) → eq (channel (sigma_t c) ch) (lit 0) ≡ false → within t.rho_samples a ≡ true → drawn_at t ch c u allowance ≡ drawn allowance u (Some W)
  unfolding drawn_at sample_catmull_rom_2d catmull_rom_weights
  drawn_inside u allowance e w = rw e (ap (λ (q : Bool). drawn allowance u (cond q (Some W) None)) w)

  pub drawn_outside : (u : Float) (allowance : ℕ) → eq (channel (sigma_t c) ch) (lit 0) ≡ false → within t.rho_samples a ≡ false → drawn_at t ch c u allowance ≡ divided (channel (sigma_t c) ch) (Ok None)
  unfolding drawn_at sample_catmull_rom_2d catmull_rom_weights draw_from
  drawn_outside u allowance e w = rw e (ap (λ (q : Bool). drawn allowance u (cond q (Some W) None)) w)

  -- ---- `sample_sr`, in the same way

  module _ (u : Float) (allowance : ℕ) where
    pub sample_first : (e : Refusal) → number e ≡ rows_part r t → refusal (number e) ≡ sample_sr r t ch c u allowance
    unfolding sample_sr sample_question
    sample_first = by_first _ _ _ _ (draw_parts r t c u allowance)

    pub sample_second : (e : Refusal) → rows_part r t ≡ 0 → number e ≡ draw_part t c u allowance → refusal (number e) ≡ sample_sr r t ch c u allowance
    unfolding sample_sr sample_question
    sample_second = by_second _ _ _ _ (draw_parts r t c u allowance)

    module _ (y : rows_part r t ≡ 0) (z : draw_part t c u allowance ≡ 0) where
      passes : draw_number r t c u allowance ≡ 0
      passes = both_pass (draw_parts r t c u allowance) y z

      pub sample_clear : eq (channel (sigma_t c) ch) (lit 0) ≡ true → sample_sr r t ch c u allowance ≡ drawn_value (neg one) 0
      unfolding sample_sr sample_question all_marked
      sample_clear e = rows_built_lem _ _ passes (rw (clear_rows e)) ∙ clear_drawn u allowance e

      module _ (e : eq (channel (sigma_t c) ch) (lit 0) ≡ false) where
        pub sample_outside : within t.rho_samples a ≡ false → sample_sr r t ch c u allowance ≡ drawn_value (lit 0 ⊘ channel (sigma_t c) ch) 0
        unfolding sample_sr sample_question all_marked divided divided_value told
        sample_outside w = rows_built_lem _ _ passes (rw (drawn_rows e false w)) ∙ drawn_outside u allowance e w

        pub sample_missing : within t.rho_samples a ≡ true → all_marked t.marks (weighted_rows (offset_of i) f) ≡ false → sample_sr r t ch c u allowance ≡ refusal 11
        unfolding sample_sr sample_question
        sample_missing w m = row_missing _ _ passes (rw (drawn_rows e true w) m)

        sample_inside : within t.rho_samples a ≡ true → all_marked t.marks (weighted_rows (offset_of i) f) ≡ true → sample_sr r t ch c u allowance ≡ drawn allowance u (Some W)
        unfolding sample_sr sample_question
        sample_inside w m = rows_built_lem _ _ passes (rw (drawn_rows e true w) m) ∙ drawn_inside u allowance e w

        -- a draw that gives a sample, and one that is refused
        pub sample_drawn : within t.rho_samples a ≡ true → all_marked t.marks (weighted_rows (offset_of i) f) ≡ true
            → (s : Sample) → draw t.radius_samples t.profile t.profile_cdf W u allowance ≡ Ok s → sample_sr r t ch c u allowance ≡ drawn_value (s.position ⊘ channel (sigma_t c) ch) s.rounds
        unfolding draw_from divided divided_value told
        sample_drawn w m s d = sample_inside w m ∙ ap (λ (x : Result Sample Refusal). divided (channel (sigma_t c) ch) (some_drawn x)) d

        pub sample_refused : within t.rho_samples a ≡ true → all_marked t.marks (weighted_rows (offset_of i) f) ≡ true
            → (x : Refusal) → draw t.radius_samples t.profile t.profile_cdf W u allowance ≡ Err x → refusal (number x) ≡ sample_sr r t ch c u allowance
        unfolding draw_from divided divided_value told
        sample_refused w m x d = sym (sample_inside w m ∙ ap (λ (y : Result Sample Refusal). divided (channel (sigma_t c) ch) (some_drawn y)) d)

pub ruleset pdf_by_tests = (pdf_first, pdf_second, pdf_outside, pdf_missing, pdf_inside)

pub ruleset sample_by_tests = (sample_first, sample_second, sample_clear, sample_outside, sample_missing, sample_drawn, sample_refused)
