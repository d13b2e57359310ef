-- What a closed book means: its cards, and the links that its list names.
use Rattle.std.specs.Prelude.{◌≡◌, ℕ, zero, suc, ◌<◌, ◌≤◌, Bool, true, false, cond, not, ◌&&◌, ◌||◌, List, is_some, Some, None, ◌==◌, ◌≢◌, nat_lt, refl}
use Rattle.std.proofs.Common.{ap, inl, inr, arith}
use Rattle.std.proofs.lemmas.Bool.Decides.{nat_tests}
use Rattle.std.proofs.lemmas.Bool.{cases_Bool, false≢true}
use Rattle.books.specs.declared.refusal.Refusal.TheVariants.{Unsuitable, BadList}
use Rattle.books.specs.Graphs.{Graph, Lawful}
use Rattle.books.specs.Books.{IsBook, cards_suit}
use Rattle.closed_book.specs.Lists.{pair_count, pair_at, pair_suits, every, list_suits, suits}

-- p and q are the same pair
abbrev pub same : ℕ × ℕ → ℕ × ℕ → Bool
same p q = p.0 == q.0 && p.1 == q.1

-- some number below k passes the test
abbrev pub any : (ℕ → Bool) → ℕ → Bool
any test zero = false
any test (suc k) = any test k || test k

-- p stands in the list
abbrev pub stands : List ℕ → ℕ × ℕ → Bool
stands xs p = any (λ k. same (pair_at xs k) p) (pair_count xs)

-- two cards as a pair, the lower first
abbrev pub lower_first : ℕ → ℕ → ℕ × ℕ
lower_first u v = cond (nat_lt u v) (u, v) (v, u)

-- two cards are linked exactly where the pair of them, the lower first, stands in the list
abbrev pub closed_graph : ℕ → List ℕ → Graph
closed_graph n xs = record { cards = n; linked = λ u v. stands xs (lower_first u v) }

-- From here on: the proofs that this is the graph of a book, where the list suits.
neither : (a b : Bool) → not (is_some (cond a (cond b None (Some BadList)) (Some Unsuitable))) ≡ true → (a ≡ true) × (b ≡ true)
neither true true h = (refl, refl)
neither true false h = absurd (false≢true h)
neither false b h = absurd (false≢true h)

pub suits_cards : (n : ℕ) (xs : List ℕ) → suits n xs ≡ true → (1 ≤ n) × (n ≤ 1024)
suits_cards n xs s =
    let suit = (neither (cards_suit n) (list_suits n xs) s).0 in
    (grind (arith, nat_tests), grind (arith, nat_tests))

pub suits_pairs : (n : ℕ) (xs : List ℕ) → suits n xs ≡ true → every (pair_suits n xs) (pair_count xs) ≡ true
suits_pairs n xs s =
    let suit = (neither (cards_suit n) (list_suits n xs) s).1 in
    grind (arith, nat_tests)

-- what stands at one of the first k places is two cards, the lower first
pub stands_cards : (n : ℕ) (xs : List ℕ) (k : ℕ) (p : ℕ × ℕ) → every (pair_suits n xs) k ≡ true → any (λ j. same (pair_at xs j) p) k ≡ true → (p.0 < p.1) × (p.1 < n)
stands_cards n xs zero p e h = grind arith
stands_cards n xs (suc k) p e h = (grind (arith, nat_tests, stands_cards n xs k p), grind (arith, nat_tests, stands_cards n xs k p))

pub either_way : (u v : ℕ) → lower_first u v ≡ lower_first v u
either_way u v = grind (arith, nat_tests)

pub linked_cards : (n : ℕ) (xs : List ℕ) → suits n xs ≡ true → (u v : ℕ) → (closed_graph n xs).linked u v ≡ true → (u < n) × (u ≢ v)
linked_cards n xs s u v h =
    let c = stands_cards n xs (pair_count xs) (lower_first u v) (suits_pairs n xs s) h in
    (grind (arith, nat_tests), λ e. grind (arith, nat_tests))

pub closed_lawful : (n : ℕ) (xs : List ℕ) → suits n xs ≡ true → Lawful (closed_graph n xs)
closed_lawful n xs s = record {
  even = λ u v. ap (stands xs) (either_way u v);
  apart = λ u. elim (cases_Bool ((closed_graph n xs).linked u u)) [ inl h ↦ absurd ((linked_cards n xs s u u h).1 refl) | inr h ↦ h ];
  inside = λ u v h. (linked_cards n xs s u v h).0;
}

-- so where the list suits, its cards and links are a book's
pub closed_sound : (n : ℕ) (xs : List ℕ) → suits n xs ≡ true → IsBook (closed_graph n xs)
closed_sound n xs s = record {
  lawful = closed_lawful n xs s;
  least = (suits_cards n xs s).0;
  most = (suits_cards n xs s).1;
}
