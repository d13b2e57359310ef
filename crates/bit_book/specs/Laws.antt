-- Whatever its bytes are, a bit book's memory means a book.
use Rattle.std.specs.Prelude.{◌≡◌, ℕ, ◌<◌, ◌≤◌, true, false, ◌&&◌, List, nat_lt}
use Rattle.std.proofs.Common.{⊎_elim, arith}
use Rattle.std.proofs.Math.Bool.{or_comm}
use Rattle.std.proofs.lemmas.Bool.{ltb-true, le-ltb, or_cases, and_parts, or_from, and_left}
use Rattle.books.specs.Graphs.{Lawful}
use Rattle.books.specs.Books.{IsBook}
use Rattle.bit_book.specs.Layout.{pair_bit, bit_at}
use Rattle.bit_book.specs.Meaning.{low_linked, bit_linked, bit_graph}

-- a linked pair u < v has both ends among the cards
pub low_inside : (n : ℕ) (xs : List ℕ) (u v : ℕ) → low_linked n xs u v ≡ true → (u < v) × (v < n)
low_inside n xs u v h =
    let a = and_parts (nat_lt u v && nat_lt v n) (bit_at xs (pair_bit u v)) h in
    let b = and_parts (nat_lt u v) (nat_lt v n) a.0 in
    (ltb-true u v b.0, ltb-true v n b.1)

-- no pair has one card at both ends
pub low_apart : (n : ℕ) (xs : List ℕ) (u : ℕ) → low_linked n xs u u ≡ false
low_apart n xs u =
    and_left (nat_lt u u && nat_lt u n) (bit_at xs (pair_bit u u)) (and_left (nat_lt u u) (nat_lt u n) (le-ltb u u (omega arith)))

-- whoever is linked is a card
pub bit_inside : (n : ℕ) (xs : List ℕ) (u v : ℕ) → bit_linked n xs u v ≡ true → u < n
bit_inside n xs u v h =
    ⊎_elim (λ a. omega (arith, low_inside n xs u v a)) (λ a. omega (arith, low_inside n xs v u a)) (or_cases (low_linked n xs u v) (low_linked n xs v u) h)

-- so the links are those of a book
pub bit_lawful : (n : ℕ) (xs : List ℕ) → Lawful (bit_graph n xs)
bit_lawful n xs = record {
  even = λ u v. or_comm (low_linked n xs u v) (low_linked n xs v u);
  apart = λ u. or_from (low_linked n xs u u) (low_linked n xs u u) (low_apart n xs u) (low_apart n xs u);
  inside = bit_inside n xs;
}

-- from 1 to 1,024 cards, and the links that the bytes hold, are a book's
pub bit_sound : (n : ℕ) (xs : List ℕ) → 1 ≤ n → n ≤ 1024 → IsBook (bit_graph n xs)
bit_sound n xs l m = record { lawful = bit_lawful n xs; least = l; most = m }
