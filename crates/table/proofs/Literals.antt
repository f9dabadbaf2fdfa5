-- -1, the limit of g, is the machine's, by computation. Assumes nothing.
use mathlib.Core.Path.{◌≡◌, refl}
use lib.Ieee.{of_bits, neg}
use Rattle.elementary.specs.Notation.{lit}
use Rattle.table.specs.Checks.{min_g}

pub lowest : min_g ≡ lit 0xbf80_0000
unfolding of_bits neg
lowest = refl
