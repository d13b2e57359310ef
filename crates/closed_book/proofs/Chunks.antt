-- The list two numbers at a time, as the code reads it.
use Rattle.std.proofs.Common.{◌≡◌, ℕ, zero, suc, ◌+◌, ◌*◌, ◌<◌, ◌≤◌, List, [], ◌∷◌, length, get_or, drop, refl, ap, arith}
use Rattle.std.specs.Simd.{first_chunks}
use Rattle.closed_book.specs.Lists.{pair_count, pair_at}
use Rattle.closed_book.proofs.Pairs.{array}

-- the pairs, each as an array
abbrev pub chunks : List ℕ → List (List ℕ)
chunks xs = first_chunks 2 (pair_count xs) xs

length_first : (n : ℕ) (xs : List ℕ) → length (first_chunks 2 n xs) ≡ n
length_first zero xs = refl
length_first (suc n) xs = ap suc (length_first n (drop 2 xs))

pub length_chunks : (xs : List ℕ) → length (chunks xs) ≡ pair_count xs
length_chunks xs = length_first (pair_count xs) xs

first_at : (n k : ℕ) (xs : List ℕ) (d : List ℕ) → k < n → 2 * n ≤ length xs → get_or (first_chunks 2 n xs) k d ≡ array (pair_at xs k)
first_at zero k xs d l m = absurd (omega arith)
first_at (suc n) k [] d l m = absurd (omega arith)
first_at (suc n) k (x ∷ []) d l m = absurd (omega arith)
first_at (suc n) zero (x ∷ (y ∷ xs)) d l m = refl
first_at (suc n) (suc k) (x ∷ (y ∷ xs)) d l m =
    let e : 2 * suc k ≡ suc (suc (2 * k)) = omega arith in
    let f : suc (suc (2 * k)) + 1 ≡ suc (suc (2 * k + 1)) = omega arith in
    rw (e, f) (first_at n k xs d (omega arith) (omega arith))

pub chunk_at : (xs : List ℕ) (k : ℕ) (d : List ℕ) → k < pair_count xs → get_or (chunks xs) k d ≡ array (pair_at xs k)
chunk_at xs k d l = first_at (pair_count xs) k xs d l (omega arith)
