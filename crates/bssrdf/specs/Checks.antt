-- The checks of the table of refusals that concern queries alone (specification, sections 4.2 and 4.3): 8, 11 and 12. 1 to 6 are those of `table`, and 9 and 10 those of `interpolation`; 13 is an answer of its drawing.
use Rattle.std.specs.Prelude.{ℕ, Bool, ◌&&◌, not, List, [], ◌∷◌, Float}
use Rattle.std.specs.Float.Ieee.{le}
use Rattle.elementary.specs.Notation.{lit}
use Rattle.answers.specs.Checks.{unless_passed, first_of}
use Rattle.interpolation.specs.Nodes.{finite}
use Rattle.interpolation.specs.Checks.{check9, check10}
use Rattle.scattering.specs.Spectrum.{has_nans}
use Rattle.scattering.specs.declared.spectrum.Spectrum.{Spectrum}
use Rattle.table.specs.Parameters.{Lists, lengths_of}
use Rattle.table.specs.Checks.{table_number}
use Rattle.table.specs.declared.parameters.Record.{Record}
use Rattle.bssrdf.specs.Coefficients.{sigma_t}
use Rattle.bssrdf.specs.Needed.{all_marked}
use Rattle.bssrdf.specs.declared.coefficients.Coefficients.{Coefficients}

-- the test passes in each channel
abbrev pub each_channel : (Float → Bool) → Spectrum → Bool
each_channel test s = test s.r && test s.g && test s.b

-- from 0 on, so -0 passes, and finite
unfoldable pub coefficient_ok : Float → Bool
coefficient_ok v = le (lit 0) v && finite v

-- 8: a coefficient below 0, NaN or infinite, or a channel's sum infinite
unfoldable pub check8 : Coefficients → ℕ
check8 c = unless_passed 8 (each_channel coefficient_ok c.sigma_a && each_channel coefficient_ok c.sigma_s && each_channel finite (sigma_t c))

-- 11: a needed row isn't marked built
unfoldable pub check11 : List ℕ → List ℕ → ℕ
check11 marks rows = unless_passed 11 (all_marked marks rows)

-- 12: a channel of `sr` is a NaN before its clamp
unfoldable pub check12 : Spectrum → ℕ
check12 s = unless_passed 12 (not (has_nans s))

-- ---- the checks that a query makes before 11

-- `sr` and `pdf_sr`: 1 to 6 and 8
unfoldable pub query_number : Record → Lists → Coefficients → ℕ
query_number r t c = first_of (table_number r t.rho_samples t.radius_samples (lengths_of t) ∷ check8 c ∷ [])

-- `sample_sr`: 1 to 6 and 8 to 10
unfoldable pub draw_number : Record → Lists → Coefficients → Float → ℕ → ℕ
draw_number r t c u allowance = first_of (query_number r t c ∷ check9 u ∷ check10 allowance ∷ [])
