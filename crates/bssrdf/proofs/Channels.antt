-- A channel is inside if it is so on both axes; else it needs no row, and its radiance and density are 0. So one test serves for the two axes. Assumes nothing.
use mathlib.Core.Path.{◌≡◌, refl, sym, ◌∙◌}
use mathlib.Core.Bool.{Bool, true, false, cond, ◌&&◌, true≢false}
use mathlib.Core.List.{List, []}
use Prim.Native.Nat.{ℕ}
use lib.Ieee.{Float}
use Rattle.elementary.specs.Notation.{lit}
use Rattle.interpolation.specs.declared.weights.Weights.{Weights}
use Rattle.interpolation.specs.declared.weights.Four.{Four}
use Rattle.std.specs.Prelude.{Option, Some, None}
use Rattle.scattering.specs.Spectrum.{channel}
use Rattle.scattering.specs.declared.spectrum.RGBEnum.{RGBEnum}
use Rattle.scattering.specs.declared.spectrum.RGBEnum.TheVariants.{Red, Green, Blue}
use Rattle.bssrdf.specs.Coefficients.{sigma_t, albedo, rho}
use Rattle.bssrdf.specs.declared.coefficients.Coefficients.{Coefficients}
use Rattle.bssrdf.specs.Axes.{weights_by}
use Rattle.bssrdf.specs.Needed.{rows_of, rows_of_both}
use Rattle.bssrdf.specs.Radiance.{channel_sr}
use Rattle.bssrdf.specs.Density.{density_of}
use Rattle.bssrdf.specs.declared.coefficients.OpticalRadius.{OpticalRadius}

-- ---- what depends on the weights of both axes and is z where one of them is outside

pub record ZeroOutside {A : Type 0} (F : Option Weights → Option Weights → A) (z : A) : Type 0 where
  pub no_radius : (w : Option Weights) → F w None ≡ z
  pub no_albedo : (v : Option Weights) → F None v ≡ z

module _ {A : Type 0} (F : Option Weights → Option Weights → A) (z : A) (Z : ZeroOutside F z) (w v : Option Weights) where
  pub outside : (p q : Bool) → (p && q) ≡ false → F (cond p w None) (cond q v None) ≡ z
  outside true true e = absurd (true≢false e)
  outside true false e = Z.no_radius w
  outside false q e = Z.no_albedo (cond q v None)

  -- one test for both
  pub one_test : (p q : Bool) → F (cond (p && q) w None) (cond (p && q) v None) ≡ F (cond p w None) (cond q v None)
  one_test true true = refl
  one_test true false = Z.no_radius None ∙ sym (Z.no_radius w)
  one_test false q = Z.no_radius None ∙ sym (Z.no_albedo (cond q v None))

-- ---- rows, radiance and density

pub rows_zero : ZeroOutside rows_of_both []
unfolding rows_of_both rows_of
rows_zero = record { no_radius = λ w. refl; no_albedo = none }
  where
    none : (v : Option Weights) → rows_of_both None v ≡ []
    none (Some v) = refl
    none None = refl

pub sr_zero : (profile : List Float) (m : ℕ) (x : OpticalRadius) → ZeroOutside (channel_sr profile m x) (lit 0)
unfolding channel_sr
sr_zero profile m x = record { no_radius = none; no_albedo = λ v. refl }
  where
    none : (w : Option Weights) → channel_sr profile m x w None ≡ lit 0
    none (Some w) = refl
    none None = refl

pub density_zero : (profile rho_eff : List Float) (m : ℕ) (sigma_t : Float) (x : OpticalRadius) → ZeroOutside (density_of profile rho_eff m sigma_t x) (lit 0)
unfolding density_of
density_zero profile rho_eff m sigma_t x = record { no_radius = none; no_albedo = λ v. refl }
  where
    none : (w : Option Weights) → density_of profile rho_eff m sigma_t x w None ≡ lit 0
    none (Some w) = refl
    none None = refl

-- ---- three channels, as the code has them

pub sr_both : (profile : List Float) (m : ℕ) (x : OpticalRadius) (i : ℕ) (f : Four) (j : ℕ) (g : Four) (p q : Bool)
    → channel_sr profile m x (weights_by (p && q) i f) (weights_by (p && q) j g) ≡ channel_sr profile m x (weights_by p i f) (weights_by q j g)
unfolding weights_by
sr_both profile m x i f j g = one_test (channel_sr profile m x) (lit 0) (sr_zero profile m x) _ _

pub rows_both : (i : ℕ) (f : Four) (j : ℕ) (g : Four) (p q : Bool) → rows_of (weights_by (p && q) i f) ≡ rows_of_both (weights_by p i f) (weights_by q j g)
unfolding weights_by rows_of rows_of_both
rows_both i f j g true true = refl
rows_both i f j g true false = refl
rows_both i f j g false true = refl
rows_both i f j g false false = refl

-- ---- a channel of the albedos

-- it is the albedo of the channel
pub channel_rho : (c : Coefficients) (ch : RGBEnum) → channel (rho c) ch ≡ albedo (channel c.sigma_s ch) (channel (sigma_t c) ch)
unfolding channel rho
channel_rho c Red = refl
channel_rho c Green = refl
channel_rho c Blue = refl
