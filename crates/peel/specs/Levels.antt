-- Level tables, which give each card a level from 0 to the height.
use Rattle.std.specs.Prelude.{◌≡◌, ℕ, ◌<◌, ◌≤◌, true, ◌⊎◌, nat_le}
use Rattle.books.specs.Graphs.{Graph}
use Rattle.peel.specs.declared.line.Line.{Line}
use Rattle.peel.specs.Sets.{Cards, partners_in}
use Rattle.peel.specs.Lines.{below}

-- what a table is read against: the cards and links, the tolerance p/q, the line and the height
pub record Rules : Type 0 where
  pub graph : Graph
  pub p : ℕ
  pub q : ℕ
  pub line : Line
  pub height : ℕ

-- these five, put together
abbrev pub rules : Graph → ℕ → ℕ → Line → ℕ → Rules
rules g p q l k = record { graph = g; p = p; q = q; line = l; height = k }

-- the level of each card
abbrev pub Table : Type 0
Table = ℕ → ℕ

-- the cards at level t or higher
abbrev pub at_least : Table → ℕ → Cards
at_least L t v = nat_le t (L v)

-- the card v rests: it is at the height, or its partners at its own level or higher are below the line in number
abbrev pub Rests : Rules → Table → ℕ → Type 0
Rests r L v =
    (L v ≡ r.height)
    ⊎ ((L v < r.height) × (below r.p r.q r.line (partners_in r.graph (at_least L (L v)) v) ≡ true))

-- the table N is nowhere below L, and every card rests in it
abbrev pub RestsAbove : Rules → Table → Table → Type 0
RestsAbove r L N = (v : ℕ) → v < r.graph.cards → (L v ≤ N v) × Rests r N v

-- of the tables above L in which every card rests, M is card for card the lowest
abbrev pub LowestAbove : Rules → Table → Table → Type 0
LowestAbove r L M = RestsAbove r L M × ((N : Table) → RestsAbove r L N → (v : ℕ) → v < r.graph.cards → M v ≤ N v)

-- the table of zeros
abbrev pub zeros : Table
zeros v = 0

-- every card rests, and stands below the height
abbrev pub AllRestUnder : Rules → Table → Type 0
AllRestUnder r L = (v : ℕ) → v < r.graph.cards → (L v < r.height) × Rests r L v
