-- What it says that no check before 11 refuses a query: the table is accepted, so each axis has two nodes or more (`two_rows`, `two_radii`), and on an accepted axis the weights are finite and bounded,
-- since the albedo and the optical radius are values of binary32, being a literal or the result of an operation (`rho_bounded`, `radius_bounded`). Assumes nothing.
use mathlib.Core.Path.{◌≡◌, sym, ap, ◌∙◌}
use mathlib.Core.Bool.{true, ◌&&◌}
use Prim.Native.Nat.{ℕ, zero, suc, ◌*◌, ◌≤◌}
use native.Mathlib.Omega.{arith}
use lib.Dec.{T}
use lib.ListN.{length}
use lib.Ieee.{Float, eq, binary32, fits}
use lib.Ieee.Fits.{cond-fits, mul-fits, div-fits}
use lib.Ieee.Bits.{of_bits-fits}
use Rattle.elementary.specs.Notation.{◌⊘◌, lit}
use Rattle.answers.proofs.Refusals.{first_none}
use Rattle.interpolation.specs.Nodes.{finite}
use Rattle.interpolation.specs.Interval.{node_interval}
use Rattle.interpolation.specs.Weights.{weight_at, four_at, offset_of, within, catmull_rom_weights}
use Rattle.interpolation.specs.Laws.{Bounded}
use Rattle.interpolation.specs.declared.weights.Four.{Four}
use Rattle.std.specs.Prelude.{Some, List}
use Rattle.interpolation.specs.declared.weights.Weights.{Weights}
use Rattle.interpolation.proofs.Bounded.{weights_bounded}
use Rattle.interpolation.proofs.Finite.{and_left, and_right}
use Rattle.scattering.specs.Spectrum.{channel}
use Rattle.scattering.specs.declared.spectrum.RGBEnum.{RGBEnum}
use Rattle.scattering.specs.declared.spectrum.RGBEnum.TheVariants.{Red, Green, Blue}
use Rattle.table.specs.Parameters.{Lists, lengths_of}
use Rattle.table.specs.declared.parameters.Record.{Record}
use Rattle.table.proofs.Refusals.{TableAccepted, table_accepted}
use Rattle.bssrdf.specs.Coefficients.{sigma_t, albedo, rho, optical}
use Rattle.bssrdf.specs.Axes.{optical_radius, albedo_weights, radius_weights}
use Rattle.bssrdf.specs.Checks.{query_number}
use Rattle.bssrdf.specs.Radiance.{Readable}
use Rattle.bssrdf.specs.Laws.{NodesHold}
use Rattle.bssrdf.proofs.Cells.{interval_in, four_reach, in_rows}
use Rattle.bssrdf.specs.declared.coefficients.Coefficients.{Coefficients}
use Rattle.bssrdf.specs.declared.coefficients.WorldRadius.{WorldRadius}

-- ---- values of binary32

albedo_fits : (s t : Float) → T (fits binary32 (albedo s t))
unfolding albedo
albedo_fits s t = cond-fits binary32 (eq t (lit 0)) (lit 0) (s ⊘ t) (of_bits-fits binary32 0) (div-fits binary32 s t)

pub rho_fits : (c : Coefficients) (ch : RGBEnum) → T (fits binary32 (channel (rho c) ch))
unfolding channel rho
rho_fits c Red = albedo_fits _ _
rho_fits c Green = albedo_fits _ _
rho_fits c Blue = albedo_fits _ _

pub optical_fits : (c : Coefficients) (x : WorldRadius) (ch : RGBEnum) → T (fits binary32 (optical_radius c x ch).0)
unfolding optical_radius optical
optical_fits c x ch = mul-fits binary32 x.0 (channel (sigma_t c) ch)

-- ---- where no check before 11 refuses

module _ (r : Record) (t : Lists) (c : Coefficients) (h : query_number r t c ≡ 0) where
  pub query_accepted : TableAccepted r t.rho_samples t.radius_samples (lengths_of t)
  unfolding query_number
  query_accepted = table_accepted r _ _ _ (first_none _ _ h).0

  pub two_rows : 2 ≤ length t.rho_samples
  two_rows = let a = query_accepted.sizes in omega arith

  pub two_radii : 2 ≤ length t.radius_samples
  two_radii = let a = query_accepted.sizes in omega arith

  pub rho_bounded : NodesHold t → (ch : RGBEnum) (w : Weights) → albedo_weights t c ch ≡ Some w → Bounded w.four
  unfolding albedo_weights
  rho_bounded H ch = weights_bounded t.rho_samples H.rho two_rows query_accepted.rho_ok (channel (rho c) ch) (rho_fits c ch)

  pub radius_bounded : NodesHold t → (x : WorldRadius) (ch : RGBEnum) (v : Weights) → radius_weights t c x ch ≡ Some v → Bounded v.four
  unfolding radius_weights
  radius_bounded H x ch = weights_bounded t.radius_samples H.radii two_radii query_accepted.radii_ok (optical_radius c x ch).0 (optical_fits c x ch)

  -- what is read of a channel that is inside, by what the code has of its two values a and b
  pub readable : NodesHold t → (x : WorldRadius) (ch : RGBEnum) {rhos radii : List Float} {a b : Float} {i j : ℕ} {f g : Four}
      → rhos ≡ t.rho_samples → radii ≡ t.radius_samples → a ≡ channel (rho c) ch → b ≡ (optical_radius c x ch).0 → (within rhos a && within radii b) ≡ true
      → i ≡ node_interval rhos a → f ≡ four_at rhos a i → j ≡ node_interval radii b → g ≡ four_at radii b j → Readable t.profile r.m i f j g
  unfolding albedo_weights radius_weights catmull_rom_weights
  readable H x ch {a = a} {b = b} {i = i} {j = j} {f = f} {g = g} l m a_is b_is inside i_is f_is j_is g_is =
      let s = query_accepted.sizes.fits in
      let f_at : f ≡ four_at t.rho_samples a i = f_is ∙ ap (λ (nodes : List Float). four_at nodes a i) l in
      let i_at : i ≡ node_interval t.rho_samples a = i_is ∙ ap (λ (nodes : List Float). node_interval nodes a) l in
      let g_at : g ≡ four_at t.radius_samples b j = g_is ∙ ap (λ (nodes : List Float). four_at nodes b j) m in
      let j_at : j ≡ node_interval t.radius_samples b = j_is ∙ ap (λ (nodes : List Float). node_interval nodes b) m in
      let rho_in : within t.rho_samples a ≡ true = ap (λ (nodes : List Float). within nodes a) (sym l) ∙ and_left (within _ a) _ inside in
      let radius_in : within t.radius_samples b ≡ true = ap (λ (nodes : List Float). within nodes b) (sym m) ∙ and_right (within _ a) _ inside in
      record {
        rows = in_rows t.rho_samples t.profile a r.m i f i_at f_at two_rows (s.profile_fits ∙ ap (λ (n : ℕ). n * r.m) (sym s.rho_fits));
        radii = rw (g_at, j_at) (four_reach t.radius_samples b _ r.m (interval_in t.radius_samples b two_radii) s.radius_fits);
        rho_bounded = rho_bounded H ch (record { offset = offset_of i; four = f }) (rw (← a_is, rho_in, f_at, i_at));
        radius_bounded = radius_bounded H x ch (record { offset = offset_of j; four = g }) (rw (← b_is, radius_in, g_at, j_at));
      }

-- each of four bounded weights is finite
pub finite_at : (f : Four) → Bounded f → (p : ℕ) → finite (weight_at f p) ≡ true
finite_at f b zero = b.w0.is_finite
finite_at f b (suc zero) = b.w1.is_finite
finite_at f b (suc (suc zero)) = b.w2.is_finite
finite_at f b (suc (suc (suc p))) = b.w3.is_finite
