-- How a call's checks give the number of its refusal (specification, section 4.3). Each check is a definition of its own, beside the calls that it concerns.
use Rattle.std.specs.Prelude.{ℕ, zero, suc, Bool, cond, List, [], ◌∷◌}

-- a check gives its number, unless the test passes, and then 0
abbrev pub unless_passed : ℕ → Bool → ℕ
unless_passed number passed = cond passed 0 number

-- checks run down the table: the first that refuses gives the number
unfoldable pub first_of : List ℕ → ℕ
first_of [] = 0
first_of (zero ∷ ks) = first_of ks
first_of (suc k ∷ ks) = suc k
