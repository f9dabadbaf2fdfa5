-- The checks of the table of refusals that concern `sw` (specification, section 4.2). Each gives its number, or 0 where it refuses nothing.
use Rattle.std.specs.Prelude.{ℕ, ◌&&◌, not, Float}
use Rattle.std.specs.Float.Ieee.{le, is_nan}
use Rattle.answers.specs.Checks.{unless_passed}
use Rattle.scattering.specs.Literals.{one, two}

-- the limits
abbrev pub min_eta : Float
min_eta = one

abbrev pub max_eta : Float
max_eta = two

-- 4: eta outside its range; a NaN is outside
unfoldable pub check4 : Float → ℕ
check4 eta = unless_passed 4 (le min_eta eta && le eta max_eta)

-- 9: the cosine a NaN
unfoldable pub check9 : Float → ℕ
check9 cosine = unless_passed 9 (not (is_nan cosine))
