-- Tables and sets as the code has them: in rows, or as answers card by card.
use Rattle.std.specs.Prelude.{◌≡◌, ℕ, ◌<◌, Bool, false, List, slice_index, slice_index_or}
use Rattle.books.specs.Graphs.{Graph}
use Rattle.peel.specs.Sets.{Cards}
use Rattle.peel.specs.Levels.{Rules, rules, Table}
use Rattle.search.specs.declared.setting.Setting.{Setting}

-- the level table that stands in the rows
abbrev pub rows : List ℕ → Table
rows xs v = slice_index xs v

-- the set of the cards with a mark
abbrev pub marked : List Bool → Cards
marked xs v = slice_index_or xs v false

-- what the tables of a peel are read against
abbrev pub rules_of : Graph → Setting → Rules
rules_of g s = rules g s.tolerance.p s.tolerance.q s.line s.height

-- the answers say of each card whether it is in X
abbrev pub Tells : Graph → (ℕ → Bool → Type 0) → Cards → Type 0
Tells g answers X = (v : ℕ) → v < g.cards → (b : Bool) → answers v b → b ≡ X v
