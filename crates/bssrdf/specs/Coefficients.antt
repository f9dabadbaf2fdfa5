-- What a query is asked with (specification, sections 10.1 and 10.2): sigma_t and the albedo of each channel, as the constructor of `TabulatedBssrdf` in bssrdf.rs has them, and the two kinds of radius.
use Rattle.std.specs.Prelude.{cond, Float}
use Rattle.std.specs.Float.Ieee.{eq}
use Rattle.elementary.specs.Notation.{◌⊗◌, ◌⊘◌, lit}
use Rattle.scattering.specs.Spectrum.{rgb, plus}
use Rattle.scattering.specs.declared.spectrum.Spectrum.{Spectrum}
use Rattle.bssrdf.specs.declared.coefficients.Coefficients.{Coefficients}
use Rattle.bssrdf.specs.declared.coefficients.WorldRadius.{WorldRadius}
use Rattle.bssrdf.specs.declared.coefficients.OpticalRadius.{OpticalRadius}

-- sigma_a + sigma_s
unfoldable pub sigma_t : Coefficients → Spectrum
sigma_t c = plus c.sigma_a c.sigma_s

-- the albedo of a channel: sigma_s / sigma_t, or 0 where sigma_t is 0
unfoldable pub albedo : Float → Float → Float
albedo sigma_s sigma_t = cond (eq sigma_t (lit 0)) (lit 0) (sigma_s ⊘ sigma_t)

unfoldable pub rho : Coefficients → Spectrum
rho c =
    let s = c.sigma_s in
    let t = sigma_t c in
    rgb (albedo s.r t.r) (albedo s.g t.g) (albedo s.b t.b)

-- the optical radius of a world radius: its product with the channel's sigma_t
unfoldable pub optical : WorldRadius → Float → OpticalRadius
optical x sigma_t = record { 0 = x.0 ⊗ sigma_t }

-- its value among the radius nodes, which are optical radii too
abbrev pub mean_free_paths : OpticalRadius → Float
mean_free_paths x = x.0
