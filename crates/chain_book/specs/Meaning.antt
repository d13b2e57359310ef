-- What the records of a chain book mean.
use Rattle.std.specs.Prelude.{ℕ, Bool, false, ◌&&◌, ◌||◌, List, [], ◌∷◌, ◌==◌, nat_lt}
use Rattle.books.specs.Graphs.{Graph}
use Rattle.chain_book.specs.declared.record.Record.{Record}
use Rattle.chain_book.specs.Records.{partner_of, chain}

-- one of these records holds v
abbrev pub holds : (ℕ → ℕ) → ℕ → List ℕ → Bool
holds partner v [] = false
holds partner v (j ∷ js) = partner j == v || holds partner v js

-- u is a card, and its chain holds v
abbrev pub chain_linked : ℕ → List Record → ℕ → ℕ → Bool
chain_linked n rs u v = nat_lt u n && holds (partner_of rs) v (chain rs u)

-- n cards, and the links that their chains hold
abbrev pub chain_graph : ℕ → List Record → Graph
chain_graph n rs = record { cards = n; linked = chain_linked n rs }
