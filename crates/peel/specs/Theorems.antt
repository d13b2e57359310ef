-- What holds of every search, and the worked cases of the definitions.
use Rattle.std.specs.Prelude.{◌≡◌, ℕ, ◌+◌, ◌*◌, ◌≤◌, true, false, Some, None}
use Rattle.books.specs.declared.refusal.Refusal.TheVariants.{BadTolerance}
use Rattle.books.specs.Graphs.{Graph}
use Rattle.peel.specs.declared.line.Line.{Line}
use Rattle.peel.specs.Tolerances.{tolerance_refusal, Height}
use Rattle.peel.specs.Sets.{Cards, size, links_in}
use Rattle.peel.specs.Lines.{line_of, below, reaches}
use Rattle.peel.specs.Levels.{LowestAbove, zeros, AllRestUnder}
use Rattle.peel.specs.Searches.{Outcome, rules_from}

-- no set is denser than a group of so many links and cards by more than the factor 2(q+p)²/q²
abbrev pub NoneDenser : Graph → ℕ → ℕ → ℕ → ℕ → Type 0
NoneDenser g p q links cards =
    (X : Cards) → links_in g X * cards * (q * q) ≤ 2 * ((q + p) * (q + p)) * links * size g X

-- what a search at the height k leaves: the line is the kept set's own, the levels are the lowest table
-- above all zeros, every card rests below the height, and no set is much denser than the kept one
pub record Sound (g : Graph) (p q k : ℕ) (o : Outcome) : Type 0 where
  pub line : o.line ≡ line_of g o.kept
  pub lowest : LowestAbove (rules_from g p q k o.kept) zeros o.levels
  pub rest : AllRestUnder (rules_from g p q k o.kept) o.levels
  pub bound : NoneDenser g p q (links_in g o.kept) (size g o.kept)

-- a line of e links and s cards
abbrev pub line : ℕ → ℕ → Line
line e s = record { links = e; cards = s }

-- the worked cases: heights, tolerances, counts against a line, sets against a line
pub record WorkedCases : Type 0 where
  pub height_ten : Height 1 2 10 4
  pub height_four : Height 1 1 4 2
  pub height_one : (p q : ℕ) → 1 ≤ p → p ≤ q → Height p q 1 1
  pub finest : tolerance_refusal 1 100 ≡ None
  pub coarsest : tolerance_refusal 100 100 ≡ None
  pub no_share : tolerance_refusal 0 5 ≡ Some BadTolerance
  pub over_one : tolerance_refusal 5 4 ≡ Some BadTolerance
  pub too_fine : tolerance_refusal 1 101 ≡ Some BadTolerance
  pub not_below : below 1 1 (line 1 4) 2 ≡ false
  pub is_below : below 1 1 (line 1 4) 1 ≡ true
  pub half_below : below 1 2 (line 1 2) 2 ≡ true
  pub half_not_below : below 1 2 (line 1 2) 3 ≡ false
  pub clique_reaches : reaches 1 2 (line 1 2) 6 4 ≡ true
  pub spread_falls_short : reaches 1 2 (line 6 4) 6 10 ≡ false
