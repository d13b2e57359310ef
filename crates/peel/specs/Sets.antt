-- Sets of cards in a graph.
use Rattle.std.specs.Prelude.{◌≡◌, ℕ, zero, suc, ◌<◌, Bool, cond, List, [], ◌∷◌, ◌++◌, nat_lt}
use Rattle.books.specs.Sums.{sum_to, pair_sum, one, when}
use Rattle.books.specs.Graphs.{Graph, weight}

-- a set of cards, by which numbers are in it
abbrev pub Cards : Type 0
Cards = ℕ → Bool

-- all cards
abbrev pub everyone : Graph → Cards
everyone g v = nat_lt v g.cards

-- the two sets have the same cards
abbrev pub Same : Graph → Cards → Cards → Type 0
Same g X Y = (v : ℕ) → v < g.cards → X v ≡ Y v

-- how many cards are in X
abbrev pub size : Graph → Cards → ℕ
size g X = sum_to (λ v. one (X v)) g.cards

-- how many partners of v are in X
abbrev pub partners_in : Graph → Cards → ℕ → ℕ
partners_in g X v = sum_to (λ u. when (X u) (weight g v u)) g.cards

-- how many links have both ends in X
abbrev pub links_in : Graph → Cards → ℕ
links_in g X = pair_sum (λ v u. when (X v) (when (X u) (weight g v u))) g.cards

-- the members of X among the numbers below n, in ascending order
abbrev pub listed : Cards → ℕ → List ℕ
listed X zero = []
listed X (suc n) = listed X n ++ cond (X n) (n ∷ []) []
