-- The members of a set, listed in ascending order.
use Rattle.std.proofs.Common.{◌≡◌, ℕ, zero, suc, ◌+◌, ◌<◌, cond, List, [], ◌∷◌, ◌++◌, length, get_or, take, drop, set, sym, refl, ap, ◌∙◌, zero-add, add-one, map-id, arith}
use Rattle.std.proofs.lemmas.List.{append_assoc, set_at, drop_more, take_more, length-take-le}
use Rattle.std.proofs.Math.Seq.{take-length}
use Rattle.std.proofs.lemmas.Grind.{common_steps}
use Rattle.std.proofs.lemmas.List.FromFn.{filter_of_map_range_with_len_more, length-enumerate_from, get_or-enumerate_from}
use Rattle.std.specs.List.{range_with_len, filter, enumerate_from}
use Rattle.books.specs.Sums.{sum_to, one}
use Rattle.peel.specs.Sets.{Cards, listed}

-- how many members of X there are below u
abbrev pub count : Cards → ℕ → ℕ
count X u = sum_to (λ v. one (X v)) u

listed_length : (X : Cards) (u : ℕ) → length (listed X u) ≡ count X u
listed_length X zero = refl
listed_length X (suc u) = grind (arith, common_steps, listed_length X u)

-- the numbers below n that pass X
listed_filter : (X : Cards) (n : ℕ) → filter X (range_with_len 0 n) ≡ listed X n
listed_filter X zero = refl
listed_filter X (suc n) =
    let e : filter X (range_with_len 0 (n + 1)) ≡ filter X (range_with_len 0 n) ++ cond (X n) (n ∷ []) []
    = simp map-id at (filter_of_map_range_with_len_more X (λ x. x) 0 n n (zero-add n)) in
    ap (λ (k : ℕ). filter X (range_with_len 0 k)) (sym (add-one n)) ∙ e ∙ ap (λ (xs : List ℕ). xs ++ cond (X n) (n ∷ []) []) (listed_filter X n)

-- how many they are
pub filter_count : (X : Cards) (n : ℕ) → length (filter X (range_with_len 0 n)) ≡ count X n
filter_count X n = ap length (listed_filter X n) ∙ listed_length X n

-- item k of the list xs, counted from 0
abbrev pub Item : List ℕ → ℕ → ℕ → ℕ → Type 0
Item xs k at v = (k < length xs) × (at ≡ k) × (v ≡ get_or xs k v)

pub item_at : (xs : List ℕ) (k at v : ℕ) → (k < length (enumerate_from 0 xs)) × ◌≡◌ {A = ℕ × ℕ} (at, v) (get_or (enumerate_from 0 xs) k (at, v)) → Item xs k at v
item_at xs k at v h = grind (arith, length-enumerate_from 0 xs, get_or-enumerate_from 0 xs k (at, v))

-- the first k items stand at the start of the list, and the rest is as it was
abbrev pub Written : List ℕ → ℕ → List ℕ → List ℕ → Type 0
Written xs k was is = is ≡ take k xs ++ drop k was

pub written_more : (xs was is : List ℕ) (k at v : ℕ) → Written xs k was is → Item xs k at v → k < length was → Written xs (k + 1) was (set is at v)
written_more xs was is k at v w t l =
    (λ i. set (w i) (t.1 i) (t.2 i))
    ∙ ap (λ (ys : List ℕ). set (take k xs ++ ys) k (get_or xs k v)) (drop_more was k 0 l)
    ∙ set_at (take k xs) (get_or was k 0) (drop (k + 1) was) (get_or xs k v) k (length-take-le k xs (omega arith))
    ∙ sym (append_assoc (take k xs) (get_or xs k v ∷ []) (drop (k + 1) was))
    ∙ ap (λ (ys : List ℕ). ys ++ drop (k + 1) was) (sym (take_more xs k v t.0))

pub written_all : (X : Cards) (n k : ℕ) (was is : List ℕ) → Written (filter X (range_with_len 0 n)) k was is → k ≡ length (enumerate_from 0 (filter X (range_with_len 0 n)))
    → is ≡ listed X n ++ drop (count X n) was
written_all X n k was is w e =
    let xs = filter X (range_with_len 0 n) in
    grind (arith, length-enumerate_from 0 xs, take-length xs, listed_filter X n, filter_count X n)

-- sets with the same members are listed alike
pub listed_same : (X Y : Cards) (n : ℕ) → ((v : ℕ) → v < n → X v ≡ Y v) → listed X n ≡ listed Y n
listed_same X Y zero e = refl
listed_same X Y (suc n) e = λ i. listed_same X Y n (λ v h. e v (omega arith)) i ++ cond (e n (omega arith) i) (n ∷ []) []
