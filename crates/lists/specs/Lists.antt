-- The ten lists: what they lend, and what a line of lengths makes of them.
use Rattle.std.specs.Prelude.{◌≡◌, ℕ, ◌<◌, Bool, true, ◌&&◌, leb, is_none, List, [], ◌∷◌, length, take, if◌then◌else◌, Option, Some, None, option_and_then, Result, MatchResult}
use Rattle.std.specs.Option.{option_map_or}
use Rattle.words.specs.Line.{after_words, int, nexts}
use Rattle.words.specs.declared.malformed.Malformed.{Malformed}
use Rattle.table.specs.Parameters as Table
use Rattle.lists.specs.declared.lines.Lists.{Lists}
use Rattle.lists.specs.declared.name.Name.{Name}
use Rattle.lists.specs.declared.name.Name.TheVariants.{Rho, Radii, Profile, Eff, Cdf, Marks, Nodes1, Nodes2, Values, OwnCdf}

-- ---- names

-- the number of a list
abbrev pub number : Name → ℕ
number Rho = 0
number Radii = 1
number Profile = 2
number Eff = 3
number Cdf = 4
number Marks = 5
number Nodes1 = 6
number Nodes2 = 7
number Values = 8
number OwnCdf = 9

-- the result is the list of this number, or an error where it is no list's
abbrev pub Numbers : ℕ → Result Name Malformed → Type 0
Numbers n r = MatchResult r (λ name. number name ≡ n) (λ _. 9 < n)

-- the lists of a table, and a caller's own
abbrev pub lent : List Name
lent = Rho ∷ Radii ∷ Profile ∷ Eff ∷ Cdf ∷ Marks ∷ []

abbrev pub own : List Name
own = Nodes1 ∷ Nodes2 ∷ Values ∷ OwnCdf ∷ []

-- ---- what is lent

-- the used parts of a table's lists
abbrev pub table : Lists → Table.Lists
table l =
    Table.lists (take l.rho.len l.rho.room) (take l.radii.len l.radii.room) (take l.profile.len l.profile.room)
    (take l.eff.len l.eff.room) (take l.cdf.len l.cdf.room) (take l.marks.len l.marks.room)

-- ---- lengths

-- for how many entries a list has room
abbrev pub capacity : Name → ℕ
capacity Rho = 130
capacity Radii = 66
capacity Profile = 8580
capacity Eff = 130
capacity Cdf = 8580
capacity Marks = 130
capacity Nodes1 = 130
capacity Nodes2 = 130
capacity Values = 8580
capacity OwnCdf = 8580

-- the lists with another length of this one
abbrev pub set_len : Name → ℕ → Lists → Lists
set_len Rho n l = record l { rho = record l.rho { len = n } }
set_len Radii n l = record l { radii = record l.radii { len = n } }
set_len Profile n l = record l { profile = record l.profile { len = n } }
set_len Eff n l = record l { eff = record l.eff { len = n } }
set_len Cdf n l = record l { cdf = record l.cdf { len = n } }
set_len Marks n l = record l { marks = record l.marks { len = n } }
set_len Nodes1 n l = record l { nodes1 = record l.nodes1 { len = n } }
set_len Nodes2 n l = record l { nodes2 = record l.nodes2 { len = n } }
set_len Values n l = record l { values = record l.values { len = n } }
set_len OwnCdf n l = record l { own_cdf = record l.own_cdf { len = n } }

-- each number is at most the capacity of its list
abbrev pub within : List Name → List ℕ → Bool
within (name ∷ names) (n ∷ ns) = leb n (capacity name) && within names ns
within [] ns = true
within (name ∷ names) [] = true

-- the lists with these lengths
abbrev pub set_lens : List Name → List ℕ → Lists → Lists
set_lens (name ∷ names) (n ∷ ns) l = set_lens names ns (set_len name n l)
set_lens [] ns l = l
set_lens (name ∷ names) [] l = l

-- the lengths that a line gives to these lists: as many numbers as there are names, each within its capacity, if they end the line
abbrev pub lens_of : List Name → Option (List ℕ) → Option (List ℕ)
lens_of names text =
    option_and_then (λ ns. if is_none (after_words (length names) text) && within names ns then Some ns else None) (nexts int (length names) text)

-- the lists with them, or as they were where there are none
abbrev pub lens : List Name → Option (List ℕ) → Lists → Lists
lens names text l = option_map_or (λ ns. set_lens names ns l) (lens_of names text) l
