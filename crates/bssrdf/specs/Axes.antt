-- Where a channel lies on the two axes of a table (specification, section 10.3): its weights among the albedo nodes, and among the radius nodes.
use Rattle.std.specs.Prelude.{ℕ, Bool, cond, List, [], ◌∷◌, map, get_or, Float, Option, Some, None}
use Rattle.std.specs.Float.{nan}
use Rattle.interpolation.specs.Weights.{catmull_rom_weights, four_at, list_of_four, offset_of}
use Rattle.interpolation.specs.declared.weights.Weights.{Weights}
use Rattle.interpolation.specs.declared.weights.Four.{Four}
use Rattle.scattering.specs.Spectrum.{channel}
use Rattle.scattering.specs.declared.spectrum.RGBEnum.{RGBEnum}
use Rattle.table.specs.Parameters.{Lists}
use Rattle.bssrdf.specs.Coefficients.{sigma_t, rho, optical, mean_free_paths}
use Rattle.bssrdf.specs.declared.coefficients.Coefficients.{Coefficients}
use Rattle.bssrdf.specs.declared.coefficients.WorldRadius.{WorldRadius}
use Rattle.bssrdf.specs.declared.coefficients.OpticalRadius.{OpticalRadius}

-- `r_optical`
unfoldable pub optical_radius : Coefficients → WorldRadius → RGBEnum → OpticalRadius
optical_radius c x ch = optical x (channel (sigma_t c) ch)

unfoldable pub albedo_weights : Lists → Coefficients → RGBEnum → Option Weights
albedo_weights t c ch = catmull_rom_weights t.rho_samples (channel (rho c) ch)

unfoldable pub radius_weights : Lists → Coefficients → WorldRadius → RGBEnum → Option Weights
radius_weights t c x ch = catmull_rom_weights t.radius_samples (mean_free_paths (optical_radius c x ch))

-- ---- what the contracts of the parts of `sr` speak of: three channels of four weights, as the code has them, in three lists of four

abbrev pub three_of : {A : Type 0} → (ℕ → A) → List A
three_of f = f 0 ∷ f 1 ∷ f 2 ∷ []

-- three optical radii, by their values among the radius nodes
abbrev pub radius_values : List OpticalRadius → List Float
radius_values xs = map mean_free_paths xs

-- the weights of three values, each in its interval
unfoldable pub three_weights : List Float → List Float → List ℕ → List (List Float)
three_weights nodes xs intervals = three_of (λ k. list_of_four (four_at nodes (get_or xs k nan) (get_or intervals k 0)))

-- what an interval and its four weights stand for, by whether the channel is inside
unfoldable pub weights_by : Bool → ℕ → Four → Option Weights
weights_by inside i f = cond inside (Some (record { offset = offset_of i; four = f })) None
