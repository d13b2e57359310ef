-- The list names as many links as it has pairs.
use Rattle.std.proofs.Common.{◌≡◌, ℕ, zero, suc, ◌+◌, ◌<◌, ◌≤◌, Bool, true, false, List, refl, arith}
use Rattle.std.proofs.lemmas.Bool.Decides.{nat_tests}
use Rattle.books.specs.Sums.{pair_sum, one}
use Rattle.books.specs.Graphs.{link_count}
use Rattle.books.proofs.Sums.{pairs_point, pairs_none, tri_small}
use Rattle.books.proofs.Links.{links_most}
use Rattle.closed_book.specs.Lists.{pair_count, pair_at, suits}
use Rattle.closed_book.specs.Meaning.{same, any, lower_first, closed_graph, suits_cards}
use Rattle.closed_book.proofs.Tests.{any_none}
use Rattle.closed_book.proofs.Pairs.{before_other}
use Rattle.closed_book.proofs.Places.{cards_at, rises}

-- p stands at one of the list's first k places
abbrev pub stands_below : List ℕ → ℕ → ℕ × ℕ → Bool
stands_below xs k p = any (λ j. same (pair_at xs j) p) k

-- 1 for the links that the first k places name
abbrev pub weight_below : List ℕ → ℕ → ℕ → ℕ → ℕ
weight_below xs k v u = one (stands_below xs k (lower_first v u))

not_below : (n : ℕ) (xs : List ℕ) (k : ℕ) → suits n xs ≡ true → k < pair_count xs → stands_below xs k (pair_at xs k) ≡ false
not_below n xs k s l = any_none _ k (λ j m. before_other (pair_at xs j) (pair_at xs k) (rises n xs j k s m l))

-- the place k adds its own link and no other
adds_own : (n : ℕ) (xs : List ℕ) (k v u : ℕ) → suits n xs ≡ true → k < pair_count xs → lower_first v u ≡ pair_at xs k → weight_below xs (suc k) v u ≡ weight_below xs k v u + 1
adds_own n xs k v u s l e = rw e (grind (arith, nat_tests, not_below n xs k s l))

adds_no_other : (xs : List ℕ) (k v u : ℕ) → u < v → (v ≡ (pair_at xs k).1 → u ≡ (pair_at xs k).0 → ⊥) → weight_below xs (suc k) v u ≡ weight_below xs k v u
adds_no_other xs k v u l ne = grind (arith, nat_tests)

pub first_links : (n : ℕ) (xs : List ℕ) (k : ℕ) → suits n xs ≡ true → k ≤ pair_count xs → pair_sum (weight_below xs k) n ≡ k
first_links n xs zero s l = pairs_none (weight_below xs 0) n (λ v u _ _. refl)
first_links n xs (suc k) s l =
    let c = cards_at n xs k s l in
    let hi : ℕ = (pair_at xs k).1 in
    let lo : ℕ = (pair_at xs k).0 in
    let own = adds_own n xs k hi lo s l (grind (arith, nat_tests)) in
    let more = pairs_point (weight_below xs (suc k)) (weight_below xs k) n hi lo 1 c.1 c.0 own (adds_no_other xs k) in
    omega (arith, more, first_links n xs k s (omega arith))

pub links_are : (n : ℕ) (xs : List ℕ) → suits n xs ≡ true → link_count (closed_graph n xs) ≡ pair_count xs
links_are n xs s = first_links n xs (pair_count xs) s (omega arith)

pub links_small : (n : ℕ) (xs : List ℕ) → suits n xs ≡ true → pair_count xs ≤ 523776
links_small n xs s = omega (arith, links_are n xs s, links_most (closed_graph n xs), tri_small n (suits_cards n xs s).1)
