-- Cards and the links between them: a simple undirected graph, whose vertices are the cards.
use Rattle.std.specs.Prelude.{◌≡◌, ℕ, ◌<◌, Bool, true, false, cond, ◌&&◌, ◌||◌, ◌==◌}
use Rattle.books.specs.Sums.{pair_sum, one}

-- how many cards there are, numbered from 0, and which two are linked
pub record Graph : Type 0 where
  pub cards : ℕ
  pub linked : ℕ → ℕ → Bool

-- a link has no direction, joins two different cards, and only cards that are there
pub record Lawful (g : Graph) : Type 0 where
  pub even : (u v : ℕ) → g.linked u v ≡ g.linked v u
  pub apart : (u : ℕ) → g.linked u u ≡ false
  pub inside : (u v : ℕ) → g.linked u v ≡ true → u < g.cards

-- what a pair of cards counts for: 1 where it is linked
abbrev pub weight : Graph → ℕ → ℕ → ℕ
weight g u v = one (g.linked u v)

-- how many links there are, each counted once
abbrev pub link_count : Graph → ℕ
link_count g = pair_sum (weight g) g.cards

-- x and y are the pair u and v, in either order
abbrev pub same_pair : ℕ → ℕ → ℕ → ℕ → Bool
same_pair u v x y = (x == u && y == v) || (x == v && y == u)

-- the same cards, with u and v linked, and every other pair as it was
abbrev pub with_link : Graph → ℕ → ℕ → Graph
with_link g u v = record { cards = g.cards; linked = λ x y. cond (same_pair u v x y) true (g.linked x y) }

-- the same cards, with u and v not linked, and every other pair as it was
abbrev pub without_link : Graph → ℕ → ℕ → Graph
without_link g u v = record { cards = g.cards; linked = λ x y. cond (same_pair u v x y) false (g.linked x y) }
