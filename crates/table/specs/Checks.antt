-- The checks of the table of refusals that concern starting and building, 1 to 7, in its order (specification, sections 4.2 and 4.3). 1, 2 and 6 are those of `interpolation`, 4 is that of `scattering`.
use Rattle.std.specs.Prelude.{ℕ, ◌*◌, ◌&&◌, List, [], ◌∷◌, ltb, eqb, Float}
use Rattle.std.specs.Float.Ieee.{neg, lt}
use Rattle.answers.specs.Checks.{unless_passed, first_of}
use Rattle.interpolation.specs.Checks.{check1, check2, check6}
use Rattle.scattering.specs.Literals.{one}
use Rattle.scattering.specs.Checks.{check4}
use Rattle.table.specs.declared.parameters.Record.{Record}
use Rattle.table.specs.declared.parameters.Lengths.{Lengths}

-- the limits of g
abbrev pub min_g : Float
min_g = neg one

abbrev pub max_g : Float
max_g = one

-- 3: g outside its range, -1 < g < 1; a NaN is outside
unfoldable pub check3 : Float → ℕ
check3 g = unless_passed 3 (lt min_g g && lt g max_g)

-- 5: a length differs from the record's
unfoldable pub check5 : Record → Lengths → ℕ
check5 r l =
    unless_passed 5
    (eqb l.rho_samples r.n
    && eqb l.radius_samples r.m
    && eqb l.profile (r.n * r.m)
    && eqb l.rho_eff r.n
    && eqb l.profile_cdf (r.n * r.m)
    && eqb l.marks r.n)

-- 7: row number N or more
unfoldable pub check7 : Record → ℕ → ℕ
check7 r i = unless_passed 7 (ltb i r.n)

-- ---- which checks a call makes

-- 1 to 4
unfoldable pub record_number : Record → ℕ
record_number r = first_of (check1 r.n ∷ check2 r.m ∷ check3 r.g ∷ check4 r.eta ∷ [])

-- 1 to 5
unfoldable pub start_number : Record → Lengths → ℕ
start_number r l = first_of (record_number r ∷ check5 r l ∷ [])

-- 1 to 6
unfoldable pub table_number : Record → List Float → List Float → Lengths → ℕ
table_number r rho_samples radius_samples l = first_of (start_number r l ∷ check6 rho_samples ∷ check6 radius_samples ∷ [])

-- 1 to 7
unfoldable pub build_number : Record → ℕ → List Float → List Float → Lengths → ℕ
build_number r i rho_samples radius_samples l = first_of (table_number r rho_samples radius_samples l ∷ check7 r i ∷ [])
