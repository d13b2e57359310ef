-- Where a pair stands in a list that ascends.
use Rattle.std.proofs.Common.{◌≡◌, ℕ, zero, suc, ◌<◌, true, nat_cmp, List, [], length, Result, Ok, Err, sym, add-one, inl, inr, arith}
use Rattle.std.specs.Ordering.{is_lt}
use Rattle.std.specs.Cmp.Lexicographic.{slice_cmp, nat_list_cmp_total}
use Rattle.std.specs.List.Sorted.{IsSortedBy, IsSearchInRange, IsBinarySearchResult}
use Rattle.std.specs.Result.{is_ok}
use Rattle.std.proofs.lemmas.Bool.Decides.{nat_tests}
use Rattle.std.proofs.lemmas.Bool.{cases_lt}
use Rattle.std.proofs.lemmas.List.Sorted.{searchable_from_sorted}
use Rattle.closed_book.specs.Lists.{pair_count, pair_at, before, pair_suits, suits}
use Rattle.closed_book.specs.Meaning.{same, stands, suits_pairs}
use Rattle.closed_book.proofs.Tests.{every_at, any_at, any_none}
use Rattle.closed_book.proofs.Pairs.{array, before_not_less, less_other, greater_other, equal_same}
use Rattle.closed_book.proofs.Chunks.{chunks, length_chunks, chunk_at}

pub cards_at : (n : ℕ) (xs : List ℕ) (k : ℕ) → suits n xs ≡ true → k < pair_count xs → ((pair_at xs k).0 < (pair_at xs k).1) × ((pair_at xs k).1 < n)
cards_at n xs k s l =
    let h = every_at (pair_suits n xs) (pair_count xs) k (suits_pairs n xs s) l in
    (grind (arith, nat_tests), grind (arith, nat_tests))

next_rises : (n : ℕ) (xs : List ℕ) (k : ℕ) → suits n xs ≡ true → suc k < pair_count xs → before (pair_at xs k) (pair_at xs (suc k)) ≡ true
next_rises n xs k s l =
    let h = every_at (pair_suits n xs) (pair_count xs) (suc k) (suits_pairs n xs s) l in
    grind (arith, nat_tests)

pub rises : (n : ℕ) (xs : List ℕ) (j k : ℕ) → suits n xs ≡ true → j < k → k < pair_count xs → before (pair_at xs j) (pair_at xs k) ≡ true
rises n xs j zero s l m = grind arith
rises n xs j (suc k) s l m = grind (arith, nat_tests, rises n xs j k s, next_rises n xs k s m)

sorted : (n : ℕ) (xs : List ℕ) → suits n xs ≡ true → IsSortedBy (λ a b. is_lt (slice_cmp nat_cmp a b)) (chunks xs)
sorted n xs s k d z l =
    let m : suc k < pair_count xs = omega (arith, length_chunks xs) in
    let here = chunk_at xs k d (omega arith) in
    let next = chunk_at xs (suc k) d m in
    rw (add-one k, here, next) (before_not_less (pair_at xs k) (pair_at xs (suc k)) (next_rises n xs k s m))

-- a binary search finds exactly what stands in the list
pub searched : (n : ℕ) (xs : List ℕ) (p : ℕ × ℕ) (r : Result ℕ ℕ) → suits n xs ≡ true → IsSearchInRange r (length (chunks xs)) → IsBinarySearchResult (λ y. slice_cmp nat_cmp y (array p)) (chunks xs) r → is_ok r ≡ stands xs p
searched n xs p (Ok i) s l h =
    let m : i < pair_count xs = omega (arith, length_chunks xs) in
    sym (any_at (λ k. same (pair_at xs k) p) (pair_count xs) i m (equal_same (pair_at xs i) p (rw (chunk_at xs i [] m) at (h []))))
searched n xs p (Err i) s l h =
    let parted = h (searchable_from_sorted nat_list_cmp_total (λ x. x) (chunks xs) (array p) (sorted n xs s)) in
    sym (any_none (λ k. same (pair_at xs k) p) (pair_count xs)
    (λ k m. elim (cases_lt k i) [
      | inl b ↦ less_other (pair_at xs k) p (rw (chunk_at xs k [] m) at (parted.0 k [] (omega arith) b))
      | inr b ↦ greater_other (pair_at xs k) p (rw (chunk_at xs k [] m) at (parted.1 k [] b (omega (arith, length_chunks xs))))
    ]))
