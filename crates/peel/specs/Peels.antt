-- The peel: a pass that drops, again and again, the cards with too few partners left.
use Rattle.std.specs.Prelude.{◌≡◌, ℕ, zero, suc, ◌*◌, ◌<◌, ◌≤◌, true, not, ◌&&◌}
use Rattle.peel.specs.Sets.{Cards, everyone, size, partners_in, links_in}
use Rattle.peel.specs.Lines.{below}
use Rattle.peel.specs.Levels.{Rules, Table}

-- the sets of the peel: all cards, then those whose partners in the set before are not below the line in number
abbrev pub peel : Rules → ℕ → Cards
peel r zero v = everyone r.graph v
peel r (suc t) v = peel r t v && not (below r.p r.q r.line (partners_in r.graph (peel r t) v))

-- how many cards the set t of the peel has
abbrev pub peel_cards : Rules → ℕ → ℕ
peel_cards r t = size r.graph (peel r t)

-- how many links have both ends in the set t of the peel
abbrev pub peel_links : Rules → ℕ → ℕ
peel_links r t = links_in r.graph (peel r t)

-- the table L gives each card the last of the sets up to k that still has it
abbrev pub LevelsUpTo : Rules → ℕ → Table → Type 0
LevelsUpTo r k L =
    (v : ℕ) → v < r.graph.cards
    → (L v ≤ k) × (peel r (L v) v ≡ true) × ((t : ℕ) → t ≤ k → peel r t v ≡ true → t ≤ L v)

-- the levels of the peel, which goes up to the height
abbrev pub PeelLevels : Rules → Table → Type 0
PeelLevels r L = LevelsUpTo r r.height L

-- of m sets, the set t having e t links and s t cards, i is the first of highest density, empty sets passed over
pub record Densest (e s : ℕ → ℕ) (m i : ℕ) : Type 0 where
  pub among : i < m
  pub some : 0 < s i
  pub highest : (t : ℕ) → t < m → 0 < s t → e t * s i ≤ e i * s t
  pub first : (t : ℕ) → t < i → 0 < s t → e t * s i < e i * s t

-- the set t is the best of the peel
abbrev pub Best : Rules → ℕ → Type 0
Best r t = Densest (peel_links r) (peel_cards r) r.height t
