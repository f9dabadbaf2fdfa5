-- `RGBSpectrum` of spectrum.rs, and the three channels (specification, section 8.8): what the tables and their queries use of it.
use Rattle.std.specs.Prelude.{◌≡◌, ℕ, ◌<◌, Bool, ◌||◌, List, [], ◌∷◌, Float, Result, MatchResult}
use Rattle.std.specs.Float.Ieee.{is_nan}
use Rattle.elementary.specs.Notation.{◌⊕◌, ◌⊗◌, lit}
use Rattle.scattering.specs.Clamp.{clamp_t}
use Rattle.scattering.specs.declared.spectrum.Spectrum.{Spectrum}
use Rattle.scattering.specs.declared.spectrum.RGBEnum.{RGBEnum}
use Rattle.scattering.specs.declared.spectrum.RGBEnum.TheVariants.{Red, Green, Blue}
use Rattle.scattering.specs.declared.spectrum.UnknownChannel.{UnknownChannel}

abbrev pub rgb : Float → Float → Float → Spectrum
rgb r g b = record { r = r; g = g; b = b }

-- `new`: three equal values
abbrev pub uniform : Float → Spectrum
uniform v = rgb v v v

abbrev pub black : Spectrum
black = uniform (lit 0)

-- the three values, red first
abbrev pub values : Spectrum → List Float
values s = s.r ∷ s.g ∷ s.b ∷ []

-- the number of a channel
unfoldable pub channel_number : RGBEnum → ℕ
channel_number Red = 0
channel_number Green = 1
channel_number Blue = 2

-- the result is the channel of this number, or an error with a number that is no channel's
abbrev pub Numbers : ℕ → Result RGBEnum UnknownChannel → Type 0
Numbers n r = MatchResult r (λ ch. channel_number ch ≡ n) (λ e. (e.0 ≡ n) × (2 < n))

-- `Index` by `RGBEnum`
unfoldable pub channel : Spectrum → RGBEnum → Float
channel s Red = s.r
channel s Green = s.g
channel s Blue = s.b

-- `Add` and `Mul`, by channel
unfoldable pub plus : Spectrum → Spectrum → Spectrum
plus s t = rgb (s.r ⊕ t.r) (s.g ⊕ t.g) (s.b ⊕ t.b)

unfoldable pub times : Spectrum → Spectrum → Spectrum
times s t = rgb (s.r ⊗ t.r) (s.g ⊗ t.g) (s.b ⊗ t.b)

-- `clamp` up to its assertion, which is `has_nans`
unfoldable pub clamp : Spectrum → Float → Float → Spectrum
clamp s low high = rgb (clamp_t s.r low high) (clamp_t s.g low high) (clamp_t s.b low high)

unfoldable pub has_nans : Spectrum → Bool
has_nans s = is_nan s.r || is_nan s.g || is_nan s.b
