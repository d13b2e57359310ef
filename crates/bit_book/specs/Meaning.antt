-- What a bit book's memory means.
use Rattle.std.specs.Prelude.{ℕ, Bool, cond, ◌&&◌, ◌||◌, List, Some, None, Option, nat_lt}
use Rattle.books.specs.declared.refusal.Refusal.{Refusal}
use Rattle.books.specs.declared.refusal.Refusal.TheVariants.{Unsuitable}
use Rattle.books.specs.Graphs.{Graph}
use Rattle.bit_book.specs.Layout.{pair_bit, suits, bit_at}

-- u < v, both are cards, and the bit of their pair is set
abbrev pub low_linked : ℕ → List ℕ → ℕ → ℕ → Bool
low_linked n xs u v = (nat_lt u v && nat_lt v n) && bit_at xs (pair_bit u v)

-- u and v are linked, in either order
abbrev pub bit_linked : ℕ → List ℕ → ℕ → ℕ → Bool
bit_linked n xs u v = low_linked n xs u v || low_linked n xs v u

-- n cards, and the links that the bytes hold
abbrev pub bit_graph : ℕ → List ℕ → Graph
bit_graph n xs = record { cards = n; linked = bit_linked n xs }

-- why n cards cannot have a book on so many bytes, if they cannot
abbrev pub check_refusal : ℕ → ℕ → Option Refusal
check_refusal n bytes = cond (suits n bytes) None (Some Unsuitable)
