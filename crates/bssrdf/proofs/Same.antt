-- What a query needs and answers is the same on two tables that are alike in the rows that it needs. The checks before 11 read nodes and lengths alone. Where they pass, an entry that is read belongs to a place of nonzero albedo weight,
-- so to a needed row, and to one of nonzero radius weight, so to a column that exists. `pdf_sr` tests each weight; `sr` tests their product, which is enough since all weights are finite (`factors_nonzero`). Assumes nothing.
use mathlib.Core.Path.{◌≡◌, refl, sym, ap, ◌∙◌}
use mathlib.Core.Bool.{Bool, true, false, cond}
use mathlib.Core.List.{List, [], ◌∷◌, ◌++◌}
use Prim.Native.Nat.{ℕ, ◌+◌, ◌*◌, ◌<◌}
use native.Mathlib.Omega.{arith}
use lib.IntN.{ℤ}
use lib.ListN.{get_or, take, drop}
use lib.Seq.{get_or-take, get_or-drop}
use lib.Ieee.{Float, nan, neg, eq}
use Rattle.elementary.specs.Notation.{◌⊕◌, ◌⊗◌, lit}
use Rattle.answers.specs.Answer.{Answer}
use Rattle.answers.specs.Checks.{first_of}
use Rattle.interpolation.specs.Nodes.{finite}
use Rattle.interpolation.specs.Weights.{weight_at, catmull_rom_weights, over_four}
use Rattle.interpolation.specs.Blend.{row_of}
use Rattle.interpolation.specs.Sample.{draw_from, sample_catmull_rom_2d}
use Rattle.interpolation.specs.Checks.{check9, check10}
use Rattle.interpolation.specs.Laws.{Agree}
use Rattle.interpolation.specs.declared.weights.Four.{Four}
use Rattle.interpolation.specs.declared.weights.Weights.{Weights}
use Rattle.std.specs.Prelude.{Option, Some, None}
use Rattle.interpolation.proofs.Rows.{interpolate_same}
use Rattle.interpolation.proofs.Needed.{draw_same}
use Rattle.scattering.specs.Literals.{one}
use Rattle.scattering.specs.Spectrum.{rgb, times, channel}
use Rattle.scattering.specs.declared.spectrum.RGBEnum.{RGBEnum}
use Rattle.scattering.specs.declared.spectrum.RGBEnum.TheVariants.{Red, Green, Blue}
use Rattle.table.specs.Parameters.{Lists}
use Rattle.table.specs.Checks.{table_number}
use Rattle.table.specs.TableRow.{TableRow, row_at}
use Rattle.table.specs.Sets.{Rows}
use Rattle.table.specs.declared.parameters.Record.{Record}
use Rattle.bssrdf.specs.Coefficients.{sigma_t, rho}
use Rattle.bssrdf.specs.Axes.{optical_radius, albedo_weights, radius_weights}
use Rattle.bssrdf.specs.Needed.{weighted_rows, rows_of, rows_of_both, pdf_rows, sr_rows, sample_rows, among}
use Rattle.bssrdf.specs.Checks.{check8, query_number, draw_number}
use Rattle.bssrdf.specs.Radiance.{eval_profile, add_product, add_cell, tensor, cancelled, channel_sr, channel_at, unclamped}
use Rattle.bssrdf.specs.Density.{add_term, add_entry, add_entries, profile_sum, blended_albedo, density_of, density_at}
use Rattle.bssrdf.specs.Drawing.{drawn_value, divided, drawn_at}
use Rattle.bssrdf.specs.Laws.{Alike, NodesHold}
use Rattle.bssrdf.specs.declared.coefficients.Coefficients.{Coefficients}
use Rattle.bssrdf.specs.declared.coefficients.WorldRadius.{WorldRadius}
use Rattle.bssrdf.proofs.Products.{factors_nonzero}
use Rattle.bssrdf.proofs.NeededRows.{append_left, append_right, place_among, node_exists}
use Rattle.bssrdf.proofs.AfterChecks.{albedo_rows}
use Rattle.bssrdf.proofs.AcceptedQueries.{query_accepted, two_radii, rho_bounded, radius_bounded, finite_at}

-- ---- sums over places

-- where a zero is skipped
skipped : (b : Bool) (v y z : Float) → (b ≡ false → y ≡ z) → cond b v y ≡ cond b v z
skipped true v y z h = refl
skipped false v y z h = h refl

four_same : (p q : ℕ → Float → Float) → ((k : ℕ) → k < 4 → (v : Float) → p k v ≡ q k v) → (v : Float) → over_four p v ≡ over_four q v
four_same p q h v = rw (h 0 (omega arith) v, h 1 (omega arith) _, h 2 (omega arith) _, h 3 (omega arith) _)

-- two profiles that agree on the rows of nonzero albedo weight; the columns of nonzero radius weight exist
module _ (m : ℕ) (a b : List Float) (o : ℤ) (f : Four) (A : Agree a b m o f) (o' : ℤ) (g : Four) (inside : (j : ℕ) → j < 4 → eq (weight_at g j) (lit 0) ≡ false → row_of o' j < m) where
  entry_same : (i j : ℕ) → i < 4 → j < 4 → eq (weight_at f i) (lit 0) ≡ false → eq (weight_at g j) (lit 0) ≡ false → eval_profile a m o o' i j ≡ eval_profile b m o o' i j
  unfolding eval_profile
  entry_same i j l k p q = A.at i (row_of o' j) l (inside j k q) p

  sum_same : profile_sum a m o f o' g ≡ profile_sum b m o f o' g
  unfolding profile_sum add_entries add_entry add_term
  sum_same =
      four_same (add_entries a m o f o' g) (add_entries b m o f o' g)
      (λ i l v.
      skipped (eq (weight_at f i) (lit 0)) v _ _ (λ p.
      four_same (add_entry a m o f o' g i) (add_entry b m o f o' g i)
      (λ j k w. skipped (eq (weight_at g j) (lit 0)) w _ _ (λ q. ap (λ (e : Float). w ⊕ e ⊗ weight_at f i ⊗ weight_at g j) (entry_same i j l k p q)))
      v))
      (lit 0)

  tensor_same : ((i : ℕ) → finite (weight_at f i) ≡ true) → ((j : ℕ) → finite (weight_at g j) ≡ true) → tensor a m o f o' g ≡ tensor b m o f o' g
  unfolding tensor add_cell add_product
  tensor_same F G =
      four_same (λ i. over_four (add_cell a m o f o' g i)) (λ i. over_four (add_cell b m o f o' g i))
      (λ i l v.
      four_same (add_cell a m o f o' g i) (add_cell b m o f o' g i)
      (λ j k w.
      skipped (eq (weight_at f i ⊗ weight_at g j) (lit 0)) w _ _
      (λ h.
      let n = factors_nonzero (weight_at f i) (weight_at g j) (F i) (G j) h in
      ap (λ (e : Float). w ⊕ weight_at f i ⊗ weight_at g j ⊗ e) (entry_same i j l k n.0 n.1)))
      v)
      (lit 0)

-- ---- what the rows say

-- the same row of two tables with m columns
row_entry : (m k col : ℕ) (a b : List Float) → take m (drop (k * m) a) ≡ take m (drop (k * m) b) → col < m → get_or a (k * m + col) nan ≡ get_or b (k * m + col) nan
row_entry m k col a b e l = sym (read a) ∙ ap (λ (row : List Float). get_or row col nan) e ∙ read b
  where
    read : (a : List Float) → get_or (take m (drop (k * m) a)) col nan ≡ get_or a (k * m + col) nan
    read a = get_or-take m (drop (k * m) a) col nan l ∙ get_or-drop (k * m) a col nan

rows_agree : (m : ℕ) (a b : List Float) (o : ℤ) (f : Four) → ((k : ℕ) → among (weighted_rows o f) k ≡ true → take m (drop (k * m) a) ≡ take m (drop (k * m) b)) → Agree a b m o f
rows_agree m a b o f h = record { at = λ k col l n w. row_entry m (row_of o k) col a b (h (row_of o k) (place_among o f k l w)) n }

-- tables whose rows of nonzero weight are the same
module _ (r : Record) (s t : Lists) (o : ℤ) (f : Four) (same : (k : ℕ) → among (weighted_rows o f) k ≡ true → row_at r s k ≡ row_at r t k) where
  profiles_agree : Agree s.profile t.profile r.m o f
  unfolding row_at
  profiles_agree = rows_agree r.m s.profile t.profile o f (λ k l. ap (λ (x : TableRow). x.profile) (same k l))

  cdfs_agree : Agree s.profile_cdf t.profile_cdf r.m o f
  unfolding row_at
  cdfs_agree = rows_agree r.m s.profile_cdf t.profile_cdf o f (λ k l. ap (λ (x : TableRow). x.cdf) (same k l))

  -- the effective albedos are a table with one column
  albedos_agree : Agree s.rho_eff t.rho_eff 1 o f
  unfolding row_at
  albedos_agree = record { at = λ k col l m w. let e : row_of o k * 1 + col ≡ row_of o k = omega arith in rw e (ap (λ (x : TableRow). x.albedo) (same (row_of o k) (place_among o f k l w))) }

-- ---- what is asked of two tables that are alike

module _ (r : Record) (S : Rows) (s t : Lists) (A : Alike r S s t) (c : Coefficients) where
  pub number_same : query_number r s c ≡ query_number r t c
  unfolding query_number
  number_same = λ i. first_of (table_number r (A.rho i) (A.radii i) (A.lengths i) ∷ check8 c ∷ [])

  pub draw_number_same : (u : Float) (allowance : ℕ) → draw_number r s c u allowance ≡ draw_number r t c u allowance
  unfolding draw_number
  draw_number_same u allowance = λ i. first_of (number_same i ∷ check9 u ∷ check10 allowance ∷ [])

  albedo_same : (ch : RGBEnum) → albedo_weights s c ch ≡ albedo_weights t c ch
  unfolding albedo_weights
  albedo_same ch = ap (λ (nodes : List Float). catmull_rom_weights nodes (channel (rho c) ch)) A.rho

  radius_same : (x : WorldRadius) (ch : RGBEnum) → radius_weights s c x ch ≡ radius_weights t c x ch
  unfolding radius_weights
  radius_same x ch = ap (λ (nodes : List Float). catmull_rom_weights nodes (optical_radius c x ch).0) A.radii

  pub pdf_rows_same : (ch : RGBEnum) (x : WorldRadius) → pdf_rows s ch c x ≡ pdf_rows t ch c x
  unfolding pdf_rows
  pdf_rows_same ch x = λ i. rows_of_both (albedo_same ch i) (radius_same x ch i)

  pub sr_rows_same : (x : WorldRadius) → sr_rows s c x ≡ sr_rows t c x
  unfolding sr_rows
  sr_rows_same x = λ i. pdf_rows_same Red x i ++ (pdf_rows_same Green x i ++ pdf_rows_same Blue x i)

  pub sample_rows_same : (ch : RGBEnum) → sample_rows s ch c ≡ sample_rows t ch c
  unfolding sample_rows
  sample_rows_same ch = λ i. cond (eq (channel (sigma_t c) ch) (lit 0)) [] (rows_of (albedo_same ch i))

-- ---- a channel

-- what is known of a channel that is inside
record Inside (r : Record) (s t : Lists) (c : Coefficients) (ch : RGBEnum) (x : WorldRadius) (w v : Weights) : Type 0 where
  albedo_is : albedo_weights s c ch ≡ Some w
  radius_is : radius_weights s c x ch ≡ Some v
  same : (k : ℕ) → among (weighted_rows w.offset w.four) k ≡ true → row_at r s k ≡ row_at r t k
  columns : (j : ℕ) → j < 4 → eq (weight_at v.four j) (lit 0) ≡ false → row_of v.offset j < r.m

-- a value F of a channel, by the lists and the weights, is the same on alike tables if it is so inside
module _ (r : Record) (S : Rows) (s t : Lists) (A : Alike r S s t) (c : Coefficients) (h : query_number r s c ≡ 0) (ch : RGBEnum) (x : WorldRadius)
    (sub : (k : ℕ) → among (pdf_rows s ch c x) k ≡ true → S k ≡ true) (F : Lists → Option Weights → Option Weights → Float)
    (inside : (w v : Weights) → Inside r s t c ch x w v → F s (Some w) (Some v) ≡ F t (Some w) (Some v))
    (no_radius : (w : Weights) → F s (Some w) None ≡ F t (Some w) None) (no_albedo : (v : Option Weights) → F s None v ≡ F t None v) where
  by_weights : (w v : Option Weights) → albedo_weights s c ch ≡ w → radius_weights s c x ch ≡ v → ((k : ℕ) → among (rows_of_both w v) k ≡ true → S k ≡ true) → F s w v ≡ F t w v
  unfolding rows_of_both rows_of radius_weights
  by_weights (Some w) (Some v) p q needed =
      inside w v (record {
        albedo_is = p;
        radius_is = q;
        same = λ k l. A.row k (albedo_rows r s c h k ch (rw p l)) (needed k l);
        columns = λ j l n. rw (sym (query_accepted r s c h).sizes.fits.radius_fits) (node_exists s.radius_samples (optical_radius c x ch).0 v q (two_radii r s c h) j l n);
      })
  by_weights (Some w) None p q needed = no_radius w
  by_weights None v p q needed = no_albedo v

  by_channel : F s (albedo_weights s c ch) (radius_weights s c x ch) ≡ F t (albedo_weights t c ch) (radius_weights t c x ch)
  unfolding pdf_rows
  by_channel = by_weights (albedo_weights s c ch) (radius_weights s c x ch) refl refl sub ∙ (λ i. F t (albedo_same r S s t A c ch i) (radius_same r S s t A c x ch i))

module _ (r : Record) (S : Rows) (s t : Lists) (A : Alike r S s t) (c : Coefficients) (h : query_number r s c ≡ 0) (ch : RGBEnum) (x : WorldRadius)
    (sub : (k : ℕ) → among (pdf_rows s ch c x) k ≡ true → S k ≡ true) where
  pub density_same : density_at r s ch c x ≡ density_at r t ch c x
  unfolding density_at density_of blended_albedo
  density_same =
      by_channel r S s t A c h ch x sub (λ u. density_of u.profile u.rho_eff r.m (channel (sigma_t c) ch) (optical_radius c x ch))
      (λ w v i.
      rw (
        sum_same r.m s.profile t.profile w.offset w.four (profiles_agree r s t w.offset w.four i.same) v.offset v.four i.columns,
        interpolate_same s.rho_eff t.rho_eff 1 w.offset w.four 0 (albedos_agree r s t w.offset w.four i.same) (omega arith),
      ))
      (λ w. refl) (λ v. refl)

  channel_same : NodesHold s → channel_at r s c x ch ≡ channel_at r t c x ch
  unfolding channel_at channel_sr
  channel_same H =
      by_channel r S s t A c h ch x sub (λ u. channel_sr u.profile r.m (optical_radius c x ch))
      (λ w v i.
      ap (cancelled (optical_radius c x ch))
      (tensor_same r.m s.profile t.profile w.offset w.four (profiles_agree r s t w.offset w.four i.same) v.offset v.four i.columns (finite_at w.four (rho_bounded r s c h H ch w i.albedo_is)) (finite_at v.four (radius_bounded r s c h H x ch v i.radius_is))))
      (λ w. refl) (λ v. refl)

-- ---- the calls

module _ (r : Record) (s t : Lists) (c : Coefficients) (h : query_number r s c ≡ 0) where
  -- a channel's rows are among those of all three
  channel_among : (x : WorldRadius) (ch : RGBEnum) (k : ℕ) → among (pdf_rows s ch c x) k ≡ true → among (sr_rows s c x) k ≡ true
  unfolding sr_rows
  channel_among x Red k h = append_left _ _ k h
  channel_among x Green k h = append_right (pdf_rows s Red c x) _ k (append_left _ _ k h)
  channel_among x Blue k h = append_right (pdf_rows s Red c x) _ k (append_right (pdf_rows s Green c x) _ k h)

  pub unclamped_same : (x : WorldRadius) → NodesHold s → Alike r (among (sr_rows s c x)) s t → unclamped r s c x ≡ unclamped r t c x
  unfolding unclamped
  unclamped_same x H A =
      let same : (ch : RGBEnum) → channel_at r s c x ch ≡ channel_at r t c x ch = λ ch. channel_same r _ s t A c h ch x (channel_among x ch) H in
      λ i. times (rgb (same Red i) (same Green i) (same Blue i)) (times (sigma_t c) (sigma_t c))

-- a draw, by the albedo alone
module _ (r : Record) (s t : Lists) (ch : RGBEnum) (c : Coefficients) (h : query_number r s c ≡ 0) (A : Alike r (among (sample_rows s ch c)) s t) (u : Float) (allowance : ℕ) where
  by_albedo : (w : Option Weights) → albedo_weights s c ch ≡ w → ((k : ℕ) → among (rows_of w) k ≡ true → among (sample_rows s ch c) k ≡ true)
      → draw_from s.radius_samples s.profile s.profile_cdf w u allowance ≡ draw_from s.radius_samples t.profile t.profile_cdf w u allowance
  unfolding rows_of draw_from
  by_albedo (Some w) p needed =
      let e = (query_accepted r s c h).sizes.fits.radius_fits in
      let same : (k : ℕ) → among (weighted_rows w.offset w.four) k ≡ true → row_at r s k ≡ row_at r t k = λ k l. A.row k (albedo_rows r s c h k ch (rw p l)) (needed k l) in
      draw_same s.radius_samples s.profile t.profile s.profile_cdf t.profile_cdf w (two_radii r s c h)
      (rw e (profiles_agree r s t w.offset w.four same)) (rw e (cdfs_agree r s t w.offset w.four same)) u allowance
  by_albedo None p needed = refl

  pub drawn_same : drawn_at s ch c u allowance ≡ drawn_at t ch c u allowance
  unfolding drawn_at sample_catmull_rom_2d albedo_weights sample_rows
  drawn_same = go (eq sigma (lit 0)) refl
    where
      sigma : Float
      sigma = channel (sigma_t c) ch

      draw : List Float → List Float → Lists → Answer
      draw rhos radii v = divided sigma (draw_from radii v.profile v.profile_cdf (catmull_rom_weights rhos (channel (rho c) ch)) u allowance)

      go : (b : Bool) → eq sigma (lit 0) ≡ b
          → cond b (drawn_value (neg one) 0) (draw s.rho_samples s.radius_samples s) ≡ cond b (drawn_value (neg one) 0) (draw t.rho_samples t.radius_samples t)
      go true e = refl
      go false e = ap (divided sigma) (by_albedo (albedo_weights s c ch) refl (λ k l. rw e l)) ∙ (λ i. draw (A.rho i) (A.radii i) t)
