-- The bits of the constants, by computation: each is what its decimal literal rounds to. Assumes nothing.
use mathlib.Core.Path.{◌≡◌, refl}
use mathlib.Core.List.{List, [], ◌∷◌}
use lib.Ieee.{Float, binary32, round, of_bits}
use Rattle.elementary.specs.Notation.{decimal}
use Rattle.starting_nodes.specs.Nodes.{«0·0025», «1·2», eight}
use Rattle.starting_nodes.specs.Laws.{«1·01»}

pub node_literals : ◌≡◌ {A = List Float} («0·0025» ∷ «1·2» ∷ eight ∷ «1·01» ∷ []) (decimal binary32 25 4 ∷ decimal binary32 12 1 ∷ decimal binary32 8 0 ∷ decimal binary32 101 2 ∷ [])
unfolding round of_bits
node_literals = refl
