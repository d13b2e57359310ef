-- The search: peels, each against the line of the best set before, until none reaches it.
use Rattle.std.specs.Prelude.{◌≡◌, ℕ, suc, ◌<◌, Bool, true, false}
use Rattle.books.specs.Graphs.{Graph}
use Rattle.peel.specs.declared.line.Line.{Line}
use Rattle.peel.specs.Tolerances.{Height}
use Rattle.peel.specs.Sets.{Cards, everyone, Same}
use Rattle.peel.specs.Lines.{line_of, reaches}
use Rattle.peel.specs.Levels.{Rules, rules, Table}
use Rattle.peel.specs.Peels.{peel, peel_cards, peel_links, PeelLevels, Best}

-- what a search leaves: the kept set, the last line, the levels of the last peel, and how many peels there were
pub record Outcome : Type 0 where
  pub kept : Cards
  pub line : Line
  pub levels : Table
  pub peels : ℕ

-- the rules of a peel against the line that the set K makes
abbrev pub rules_from : Graph → ℕ → ℕ → ℕ → Cards → Rules
rules_from g p q k K = rules g p q (line_of g K) k

-- whether the set t of the peel reaches the line
abbrev pub reaches_at : Rules → ℕ → Bool
reaches_at r t = reaches r.p r.q r.line (peel_links r t) (peel_cards r t)

-- the search from K, at the height k: where the best set of the peel falls short of the line it ends and keeps K;
-- where it reaches the line, that set takes the place of K and the step repeats
pub data Search (g : Graph) (p q k : ℕ) : Cards → Outcome → Type 0 where
  ends : {K : Cards} {L : Table} (t : ℕ)
      → Best (rules_from g p q k K) t
      → reaches_at (rules_from g p q k K) t ≡ false
      → PeelLevels (rules_from g p q k K) L
      → Search g p q k K (record { kept = K; line = line_of g K; levels = L; peels = 1 })
  again : {K B : Cards} {o : Outcome} (t : ℕ)
      → Best (rules_from g p q k K) t
      → reaches_at (rules_from g p q k K) t ≡ true
      → Same g B (peel (rules_from g p q k K) t)
      → Search g p q k B o
      → Search g p q k K (record { kept = o.kept; line = o.line; levels = o.levels; peels = suc o.peels })

-- the two outcomes are the same as far as cards go
pub record Alike (g : Graph) (a b : Outcome) : Type 0 where
  pub kept : Same g a.kept b.kept
  pub line : a.line ≡ b.line
  pub levels : (v : ℕ) → v < g.cards → a.levels v ≡ b.levels v
  pub peels : a.peels ≡ b.peels

-- the search at the height that belongs to the number of cards
abbrev pub SearchFrom : Graph → ℕ → ℕ → Cards → Outcome → Type 0
SearchFrom g p q K o = (k : ℕ) × Height p q g.cards k × Search g p q k K o

-- the search by itself starts from all cards
abbrev pub Finds : Graph → ℕ → ℕ → Outcome → Type 0
Finds g p q o = SearchFrom g p q (everyone g) o
