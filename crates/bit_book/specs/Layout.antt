-- Where a bit book keeps each pair of cards.
use Rattle.std.specs.Prelude.{ℕ, ◌+◌, ◌-◌, ◌*◌, ◌/◌, ◌%◌, ◌^◌, Bool, cond, ◌&&◌, List, ◌++◌, drop, replicate, ◌==◌, bit_xor, nat_le, nat_lt, slice_index, slice_set}
use Rattle.books.specs.Books.{cards_suit}

-- how many pairs n cards have
abbrev pub pairs : ℕ → ℕ
pairs n = n * (n - 1) / 2

-- the bit of the pair u < v: the pairs of lower cards come first
abbrev pub pair_bit : ℕ → ℕ → ℕ
pair_bit u v = v * (v - 1) / 2 + u

-- the bit of the pair of u and v, in either order
abbrev pub bit_of : ℕ → ℕ → ℕ
bit_of u v = cond (nat_lt u v) (pair_bit u v) (pair_bit v u)

-- how many bytes have a bit for each pair of n cards
abbrev pub needed : ℕ → ℕ
needed n = (pairs n + 7) / 8

-- n cards suit a book, and the bytes have a bit for each pair of them
abbrev pub suits : ℕ → ℕ → Bool
suits n bytes = cards_suit n && nat_le (needed n) bytes

-- how many cards a new book has: as many as asked, or one where they do not suit
abbrev pub cards_made : ℕ → ℕ → ℕ
cards_made n bytes = cond (suits n bytes) n 1

-- whether bit k is set, the lowest bit of each byte first; past the bytes none is
abbrev pub bit_at : List ℕ → ℕ → Bool
bit_at xs k = slice_index xs (k / 8) / 2 ^ (k % 8) % 2 == 1

-- the same bytes, but for the first k, which are 0
abbrev pub cleared : ℕ → List ℕ → List ℕ
cleared k xs = replicate k 0 ++ drop k xs

-- the same bytes, but for bit k, which is turned over
abbrev pub turned : List ℕ → ℕ → List ℕ
turned xs k = slice_set xs (k / 8) (bit_xor (slice_index xs (k / 8)) (2 ^ (k % 8)))
