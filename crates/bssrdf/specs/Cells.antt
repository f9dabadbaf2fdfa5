-- What a channel is by its cells, as the code of `sr` has them: 0 where it has none, being outside.
use Rattle.std.specs.Prelude.{Float, Option}
use Rattle.std.specs.Option.{option_map_or}
use Rattle.elementary.specs.Notation.{lit}
use Rattle.interpolation.specs.Weights.{offset_of}
use Rattle.bssrdf.specs.Radiance.{tensor, cancelled}
use Rattle.bssrdf.specs.declared.coefficients.OpticalRadius.{OpticalRadius}
use Rattle.bssrdf.specs.declared.grid.Cells.{Cells}

abbrev pub sr_by : OpticalRadius → Option Cells → Float
sr_by x cells =
    option_map_or (λ c. cancelled x (tensor c.profile.now c.m (offset_of c.rho.interval) c.rho.four (offset_of c.radius.interval) c.radius.four)) cells (lit 0)
