-- What the arrays of three channels hold, channel by channel: an interval and four weights that stand for the weights of the channel's value among the nodes. A nonzero weight's node exists whatever the value is, since the search answers an interval of the list.
-- Assumes nothing.
use mathlib.Core.Path.{◌≡◌, refl, sym, ap, ◌∙◌}
use mathlib.Core.Bool.{Bool, true, false, ◌&&◌}
use mathlib.Core.List.{List, [], ◌∷◌, ◌++◌}
use Prim.Native.Nat.{ℕ, zero, suc, ◌+◌, ◌≤◌, ◌<◌}
use native.Mathlib.Omega.{arith}
use lib.ListN.{get_or, length}
use lib.Ieee.{Float, nan, inf}
use Rattle.elementary.specs.Notation.{lit}
use Rattle.answers.specs.Answer.{refusal, answered}
use Rattle.answers.specs.Refusal.{number}
use Rattle.answers.specs.declared.refusal.Refusal.{Refusal}
use Rattle.interpolation.specs.Interval.{node_interval}
use Rattle.interpolation.specs.Weights.{four_at, four_of, list_of_four, within, catmull_rom_weights}
use Rattle.interpolation.specs.Laws.{Reach}
use Rattle.interpolation.proofs.Reach.{reach}
use Rattle.scattering.specs.Spectrum.{channel, rgb, times, clamp}
use Rattle.scattering.specs.Exitance.{spectrum_value}
use Rattle.scattering.specs.declared.spectrum.Spectrum.{Spectrum}
use Rattle.scattering.specs.declared.spectrum.RGBEnum.{RGBEnum}
use Rattle.scattering.specs.declared.spectrum.RGBEnum.TheVariants.{Red, Green, Blue}
use Rattle.table.specs.Parameters.{Lists}
use Rattle.table.specs.declared.parameters.Record.{Record}
use Rattle.bssrdf.specs.Coefficients.{sigma_t, rho, optical}
use Rattle.bssrdf.specs.Axes.{optical_radius, albedo_weights, radius_weights, three_of, three_weights, weights_by}
use Rattle.bssrdf.specs.Checks.{query_number, check12}
use Rattle.bssrdf.specs.Laws.{NodesHold}
use Rattle.bssrdf.specs.declared.coefficients.Coefficients.{Coefficients}
use Rattle.bssrdf.specs.declared.coefficients.WorldRadius.{WorldRadius}
use Rattle.bssrdf.specs.Needed.{rows_of, rows_of_both, pdf_rows, sr_rows, all_marked}
use Rattle.bssrdf.specs.Radiance.{channel_sr, channel_at, channel_by, unclamped, sr_question, sr, Readable}
use Rattle.bssrdf.specs.declared.coefficients.OpticalRadius.{OpticalRadius}
use Rattle.bssrdf.proofs.AcceptedQueries.{query_accepted, two_rows, two_radii, readable as channel_readable}
use Rattle.bssrdf.proofs.Answering.{row_missing, rows_built_lem}
use Rattle.bssrdf.proofs.TwoParts.{rows_part, radii_part, query_parts, by_first, by_second}
use Rattle.bssrdf.proofs.Cells.{interval_in}
use Rattle.bssrdf.proofs.Channels.{sr_both, rows_both}

pub three_at : {A : Type 0} (f : ℕ → A) (d : A) (k : ℕ) → k < 3 → get_or (three_of f) k d ≡ f k
three_at f d zero l = refl
three_at f d (suc zero) l = refl
three_at f d (suc (suc zero)) l = refl
three_at f d (suc (suc (suc k))) l = absurd (omega arith)

-- the weights of a value, by its interval
pub weights_are : (nodes : List Float) (x : Float) → weights_by (within nodes x) (node_interval nodes x) (four_at nodes x (node_interval nodes x)) ≡ catmull_rom_weights nodes x
unfolding weights_by catmull_rom_weights
weights_are nodes x = refl

-- ---- one axis

module _ (nodes xs : List Float) (at : List ℕ) (two : 2 ≤ length nodes) (at_is : at ≡ three_of (λ k. node_interval nodes (get_or xs k nan))) where
  pub at_k : (k : ℕ) → k < 3 → get_or at k 0 ≡ node_interval nodes (get_or xs k nan)
  at_k k l = ap (λ (is : List ℕ). get_or is k 0) at_is ∙ three_at (λ k. node_interval nodes (get_or xs k nan)) 0 k l

  pub inside_k : (k : ℕ) → k < 3 → get_or at k 0 + 2 ≤ length nodes
  inside_k k l = rw (at_k k l) (interval_in nodes (get_or xs k nan) two)

  module _ (ws : List (List Float)) (ws_is : ws ≡ three_weights nodes xs at) where
    pub weights_k : (k : ℕ) → k < 3 → get_or ws k [] ≡ list_of_four (four_at nodes (get_or xs k nan) (get_or at k 0))
    unfolding three_weights
    weights_k k l = ap (λ (vs : List (List Float)). get_or vs k []) ws_is ∙ three_at (λ k. list_of_four (four_at nodes (get_or xs k nan) (get_or at k 0))) [] k l

    pub four_k : (k : ℕ) → k < 3 → four_of (get_or ws k []) ≡ four_at nodes (get_or xs k nan) (get_or at k 0)
    four_k k l = ap four_of (weights_k k l)

    pub reach_k : (k : ℕ) → k < 3 → Reach (four_of (get_or ws k [])) (get_or at k 0) (length nodes)
    reach_k k l = rw (four_k k l) (reach nodes (get_or xs k nan) (get_or at k 0) (inside_k k l))

    pub by_k : (inside : Bool) (k : ℕ) → k < 3
        → weights_by inside (get_or at k 0) (four_of (get_or ws k [])) ≡ weights_by inside (node_interval nodes (get_or xs k nan)) (four_at nodes (get_or xs k nan) (node_interval nodes (get_or xs k nan)))
    by_k inside k l =
        ap (weights_by inside (get_or at k 0)) (four_k k l)
        ∙ ap (λ (i : ℕ). weights_by inside i (four_at nodes (get_or xs k nan) i)) (at_k k l)

-- ---- both axes

module _ (rho radii : List Float) (rhos xs : List Float) (inside : List Bool) (inside_is : inside ≡ three_of (λ k. within rho (get_or rhos k nan) && within radii (get_or xs k nan))) where
  pub both_k : (k : ℕ) → k < 3 → get_or inside k false ≡ (within rho (get_or rhos k nan) && within radii (get_or xs k nan))
  both_k k l = ap (λ (bs : List Bool). get_or bs k false) inside_is ∙ three_at (λ k. within rho (get_or rhos k nan) && within radii (get_or xs k nan)) false k l

  -- the rows that a channel needs
  pub rows_k : (at : List ℕ) (ws : List (List Float)) → 2 ≤ length rho → at ≡ three_of (λ k. node_interval rho (get_or rhos k nan)) → ws ≡ three_weights rho rhos at → (k : ℕ) → k < 3
      → rows_of (weights_by (get_or inside k false) (get_or at k 0) (four_of (get_or ws k []))) ≡ rows_of_both (catmull_rom_weights rho (get_or rhos k nan)) (catmull_rom_weights radii (get_or xs k nan))
  rows_k at ws two at_is ws_is k l =
      ap rows_of (by_k rho rhos at two at_is ws ws_is (get_or inside k false) k l ∙ ap (λ (b : Bool). weights_by b (node_interval rho (get_or rhos k nan)) (four_at rho (get_or rhos k nan) (node_interval rho (get_or rhos k nan)))) (both_k k l))
      ∙ rows_both _ _ (node_interval radii (get_or xs k nan)) (four_at radii (get_or xs k nan) (node_interval radii (get_or xs k nan))) (within rho (get_or rhos k nan)) (within radii (get_or xs k nan))
      ∙ (λ i. rows_of_both (weights_are rho (get_or rhos k nan) i) (weights_are radii (get_or xs k nan) i))

  -- the channel
  pub channel_k : (profile : List Float) (m : ℕ) (x : OpticalRadius) (at : List ℕ) (ws : List (List Float)) (at' : List ℕ) (ws' : List (List Float)) → 2 ≤ length rho → 2 ≤ length radii
      → at ≡ three_of (λ k. node_interval rho (get_or rhos k nan)) → ws ≡ three_weights rho rhos at → at' ≡ three_of (λ k. node_interval radii (get_or xs k nan)) → ws' ≡ three_weights radii xs at' → (k : ℕ) → k < 3
      → channel_sr profile m x (weights_by (get_or inside k false) (get_or at k 0) (four_of (get_or ws k []))) (weights_by (get_or inside k false) (get_or at' k 0) (four_of (get_or ws' k [])))
      ≡ channel_sr profile m x (catmull_rom_weights rho (get_or rhos k nan)) (catmull_rom_weights radii (get_or xs k nan))
  channel_k profile m x at ws at' ws' two two' at_is ws_is at_is' ws_is' k l =
      (λ i. channel_sr profile m x (by_k rho rhos at two at_is ws ws_is (both_k k l i) k l i) (by_k radii xs at' two' at_is' ws' ws_is' (both_k k l i) k l i))
      ∙ sr_both profile m x _ _ _ _ (within rho (get_or rhos k nan)) (within radii (get_or xs k nan))
      ∙ (λ i. channel_sr profile m x (weights_are rho (get_or rhos k nan) i) (weights_are radii (get_or xs k nan) i))

-- ---- `sr` where a part of its checks refuses

module _ (r : Record) (t : Lists) (c : Coefficients) (x : WorldRadius) where
  pub sr_first : (e : Refusal) → number e ≡ rows_part r t → refusal (number e) ≡ sr r t c x
  unfolding sr sr_question
  sr_first = by_first _ _ _ _ (query_parts r t c)

  pub sr_second : (e : Refusal) → rows_part r t ≡ 0 → number e ≡ radii_part t c → refusal (number e) ≡ sr r t c x
  unfolding sr sr_question
  sr_second = by_second _ _ _ _ (query_parts r t c)

pub ruleset sr_by_parts = (sr_first, sr_second)

-- ---- the values of three channels

-- the channel of each number
abbrev pub channel_number : ℕ → RGBEnum
channel_number zero = Red
channel_number (suc zero) = Green
channel_number (suc (suc k)) = Blue

-- what the code has of the coefficients c and the radius x where no check before 11 refuses: up to the albedo weights
pub record Albedos (r : Record) (t : Lists) (c : Coefficients) (x : WorldRadius) (rhos xs : List Float) (inside : List Bool) (at : List ℕ) (ws : List (List Float)) : Type 0 where
  pub passes : query_number r t c ≡ 0
  pub rhos_are : rhos ≡ (rho c).r ∷ (rho c).g ∷ (rho c).b ∷ []
  pub xs_are : xs ≡ (optical x (sigma_t c).r).0 ∷ (optical x (sigma_t c).g).0 ∷ (optical x (sigma_t c).b).0 ∷ []
  pub inside_is : inside ≡ three_of (λ k. within t.rho_samples (get_or rhos k nan) && within t.radius_samples (get_or xs k nan))
  pub at_is : at ≡ three_of (λ k. node_interval t.rho_samples (get_or rhos k nan))
  pub ws_is : ws ≡ three_weights t.rho_samples rhos at

-- and the radius weights
pub record Radii (t : Lists) (xs : List Float) (at : List ℕ) (ws : List (List Float)) : Type 0 where
  pub at_is : at ≡ three_of (λ k. node_interval t.radius_samples (get_or xs k nan))
  pub ws_is : ws ≡ three_weights t.radius_samples xs at

module _ {r : Record} {t : Lists} {c : Coefficients} {x : WorldRadius} {rhos xs : List Float} {inside : List Bool} {at : List ℕ} {ws : List (List Float)} (A : Albedos r t c x rhos xs inside at ws) where
  rhos_k : (k : ℕ) → k < 3 → get_or rhos k nan ≡ channel (rho c) (channel_number k)
  unfolding channel
  rhos_k zero l = rw A.rhos_are
  rhos_k (suc zero) l = rw A.rhos_are
  rhos_k (suc (suc zero)) l = rw A.rhos_are
  rhos_k (suc (suc (suc k))) l = absurd (omega arith)

  xs_k : (k : ℕ) → k < 3 → get_or xs k nan ≡ (optical_radius c x (channel_number k)).0
  unfolding channel optical_radius
  xs_k zero l = rw A.xs_are
  xs_k (suc zero) l = rw A.xs_are
  xs_k (suc (suc zero)) l = rw A.xs_are
  xs_k (suc (suc (suc k))) l = absurd (omega arith)

  two : (2 ≤ length t.rho_samples) × (2 ≤ length t.radius_samples)
  two = (two_rows r t c A.passes, two_radii r t c A.passes)

  rows_of_lem : (k : ℕ) → k < 3 → rows_of (weights_by (get_or inside k false) (get_or at k 0) (four_of (get_or ws k []))) ≡ pdf_rows t (channel_number k) c x
  unfolding pdf_rows albedo_weights radius_weights
  rows_of_lem k l =
      rows_k t.rho_samples t.radius_samples rhos xs inside A.inside_is at ws two.0 A.at_is A.ws_is k l
      ∙ (λ i. rows_of_both (catmull_rom_weights t.rho_samples (rhos_k k l i)) (catmull_rom_weights t.radius_samples (xs_k k l i)))

  -- the rows of the three are those that `sr` needs
  rows_are : (rows_of (weights_by (get_or inside 0 false) (get_or at 0 0) (four_of (get_or ws 0 []))) ++ (rows_of (weights_by (get_or inside 1 false) (get_or at 1 0) (four_of (get_or ws 1 []))) ++ rows_of (weights_by (get_or inside 2 false) (get_or at 2 0) (four_of (get_or ws 2 [])))))
      ≡ sr_rows t c x
  unfolding sr_rows
  rows_are = λ i. rows_of_lem 0 (omega arith) i ++ (rows_of_lem 1 (omega arith) i ++ rows_of_lem 2 (omega arith) i)

  -- so it answers by their marks
  module _ {marked : Bool}
      (is : marked ≡ all_marked t.marks (rows_of (weights_by (get_or inside 0 false) (get_or at 0 0) (four_of (get_or ws 0 []))) ++ (rows_of (weights_by (get_or inside 1 false) (get_or at 1 0) (four_of (get_or ws 1 []))) ++ rows_of (weights_by (get_or inside 2 false) (get_or at 2 0) (four_of (get_or ws 2 [])))))) where
    pub sr_unmarked : marked ≡ false → sr r t c x ≡ refusal 11
    unfolding sr sr_question
    sr_unmarked e = row_missing _ _ A.passes (ap (all_marked t.marks) (sym rows_are) ∙ sym is ∙ e)

    pub sr_marked : marked ≡ true → sr r t c x ≡ answered (check12 (unclamped r t c x)) (spectrum_value (clamp (unclamped r t c x) (lit 0) (inf false)))
    unfolding sr sr_question
    sr_marked e = rows_built_lem _ _ A.passes (ap (all_marked t.marks) (sym rows_are) ∙ sym is ∙ e)

  -- each nonzero albedo weight has its mark
  pub marks_reach : (k : ℕ) → k < 3 → Reach (four_of (get_or ws k [])) (get_or at k 0) (length t.marks)
  marks_reach k l =
      let a = (query_accepted r t c A.passes).sizes.fits in
      rw (a.marks_fit ∙ sym a.rho_fits) (reach_k t.rho_samples rhos at two.0 A.at_is ws A.ws_is k l)

  module _ {at' : List ℕ} {ws' : List (List Float)} (B : Radii t xs at' ws') where
    -- each channel is that of `sr`
    channel_are : (k : ℕ) → k < 3
        → channel_sr t.profile r.m (optical_radius c x (channel_number k)) (weights_by (get_or inside k false) (get_or at k 0) (four_of (get_or ws k []))) (weights_by (get_or inside k false) (get_or at' k 0) (four_of (get_or ws' k [])))
        ≡ channel_at r t c x (channel_number k)
    unfolding channel_at albedo_weights radius_weights
    channel_are k l =
        channel_k t.rho_samples t.radius_samples rhos xs inside A.inside_is t.profile r.m (optical_radius c x (channel_number k)) at ws at' ws' two.0 two.1 A.at_is A.ws_is B.at_is B.ws_is k l
        ∙ (λ i. channel_sr t.profile r.m (optical_radius c x (channel_number k)) (catmull_rom_weights t.rho_samples (rhos_k k l i)) (catmull_rom_weights t.radius_samples (xs_k k l i)))

    -- and the three in the world's units
    pub unclamped_is : (σ : Spectrum) → σ ≡ sigma_t c → let by : Float → ℕ → Float = λ v k. channel_by t.profile r.m (optical x v) inside at ws at' ws' k in
        times (rgb (by σ.r 0) (by σ.g 1) (by σ.b 2)) (times σ σ) ≡ unclamped r t c x
    unfolding unclamped channel optical_radius
    unclamped_is σ e = rw e (λ i. times (rgb (channel_are 0 (omega arith) i) (channel_are 1 (omega arith) i) (channel_are 2 (omega arith) i)) (times (sigma_t c) (sigma_t c)))

    -- and what it reads is there
    pub readable : NodesHold t → (k : ℕ) → k < 3 → get_or inside k false ≡ true → Readable t.profile r.m (get_or at k 0) (four_of (get_or ws k [])) (get_or at' k 0) (four_of (get_or ws' k []))
    readable H k l e =
        channel_readable r t c A.passes H x (channel_number k) refl refl (rhos_k k l) (xs_k k l) (sym (both_k t.rho_samples t.radius_samples rhos xs inside A.inside_is k l) ∙ e)
        (at_k t.rho_samples rhos at two.0 A.at_is k l) (four_k t.rho_samples rhos at two.0 A.at_is ws A.ws_is k l)
        (at_k t.radius_samples xs at' two.1 B.at_is k l) (four_k t.radius_samples xs at' two.1 B.at_is ws' B.ws_is k l)
