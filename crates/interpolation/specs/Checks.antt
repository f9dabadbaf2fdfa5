-- The checks of the table of refusals that concern calls on a caller's own lists (specification, section 4.2). Each gives its number, or 0 where it refuses nothing.
use Rattle.std.specs.Prelude.{ℕ, ◌&&◌, List, leb, eqb, Float}
use Rattle.std.specs.Float.Ieee.{le}
use Rattle.elementary.specs.Notation.{lit}
use Rattle.answers.specs.Checks.{unless_passed}
use Rattle.interpolation.specs.Nodes.{nodes_ok}

-- the limits
abbrev pub min_nodes : ℕ
min_nodes = 2

unfoldable pub max_rows : ℕ
max_rows = 128

unfoldable pub max_radii : ℕ
max_radii = 64

unfoldable pub max_allowance : ℕ
max_allowance = 1000

-- 1: N outside its range
unfoldable pub check1 : ℕ → ℕ
check1 n = unless_passed 1 (leb min_nodes n && leb n max_rows)

-- 2: M outside its range
unfoldable pub check2 : ℕ → ℕ
check2 m = unless_passed 2 (leb min_nodes m && leb m max_radii)

-- 5: a length differs
unfoldable pub check5 : ℕ → ℕ → ℕ
check5 given expected = unless_passed 5 (eqb given expected)

-- 6: a node list has a non-finite node, isn't strictly increasing, or its last minus first isn't finite
unfoldable pub check6 : List Float → ℕ
check6 nodes = unless_passed 6 (nodes_ok nodes)

-- 9: u is a NaN or outside 0 to 1 (0x3f800000)
unfoldable pub check9 : Float → ℕ
check9 u = unless_passed 9 (le (lit 0) u && le u (lit 0x3f800000))

-- 10: the allowance outside 1 to 1,000
unfoldable pub check10 : ℕ → ℕ
check10 allowance = unless_passed 10 (leb 1 allowance && leb allowance max_allowance)
