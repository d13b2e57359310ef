-- The bits of pairs, and what a turned bit does to the links.
use Rattle.std.proofs.Common.{◌≡◌, ℕ, suc, ◌+◌, ◌/◌, ◌<◌, ◌≤◌, false, cond, not, ◌&&◌, ltb, List, length, sym, ap, ◌∙◌, ⊎_elim, arith}
use Rattle.std.proofs.lemmas.Nat.{div_below}
use Rattle.std.proofs.Math.Bool.{or_comm}
use Rattle.std.proofs.lemmas.Bool.{cases_lt, cases_order, lt-ltb, le-ltb, or_from, and_left, and_right}
use Rattle.books.specs.Graphs.{same_pair}
use Rattle.books.proofs.Sums.{tri, tri_is, tri_le}
use Rattle.books.proofs.Links.{Ends, or_none, same_straight, same_crossed, same_other, same_swap, pair_cases}
use Rattle.bit_book.specs.Layout.{pairs, pair_bit, bit_of, needed, bit_at, cleared, turned}
use Rattle.bit_book.specs.Meaning.{low_linked, bit_linked, bit_graph}
use Rattle.bit_book.proofs.Bytes.{bit_cleared, turned_here, turned_others}

place_is : (u v : ℕ) → pair_bit u v ≡ tri v + u
place_is u v = ap (λ t. t + u) (tri_is v)

pub place_below : (u v n : ℕ) → u < v → v < n → pair_bit u v < pairs n
place_below u v n h k = omega (arith, place_is u v, tri_is n, tri_le (suc v) n k)

-- a pair's bit is in the needed bytes
pub in_needed : (n k : ℕ) → k < pairs n → k / 8 < needed n
in_needed n k h = div_below k 8 (needed n) (omega arith) (omega arith)

place_in : (u v n l : ℕ) → u < v → v < n → needed n ≤ l → pair_bit u v / 8 < l
place_in u v n l h k m = omega (arith, in_needed n (pair_bit u v) (place_below u v n h k))

-- no two pairs share a bit
pub place_apart : (u v x y : ℕ) → u < v → x < y → pair_bit x y ≡ pair_bit u v → (x ≡ u) × (y ≡ v)
place_apart u v x y h k e =
    ⊎_elim
    (λ (s : y ≡ v). (omega (arith, place_is u v, place_is x y, ap tri s), s))
    (λ o. ⊎_elim
    (λ (l : y < v). absurd (omega (arith, place_is u v, place_is x y, tri_le (suc y) v l)))
    (λ (l : v < y). absurd (omega (arith, place_is u v, place_is x y, tri_le (suc v) y l))) o)
    (cases_order y v)

low_none : (n : ℕ) (xs : List ℕ) (a b : ℕ) → b ≤ a → low_linked n xs a b ≡ false
low_none n xs a b h = rw (le-ltb a b h)

-- a pair in its order, among the cards: the link is the bit
pub linked_low : (n : ℕ) (xs : List ℕ) (a b : ℕ) → a < b → b < n → bit_linked n xs a b ≡ bit_at xs (pair_bit a b)
linked_low n xs a b h k =
    or_none (low_linked n xs a b) (low_linked n xs b a) (low_none n xs b a (omega arith)) ∙ rw (lt-ltb a b h, lt-ltb b n k)

pub of_low : (u v : ℕ) → u < v → bit_of u v ≡ pair_bit u v
of_low u v h = rw (lt-ltb u v h)

pub of_high : (u v : ℕ) → v ≤ u → bit_of u v ≡ pair_bit v u
of_high u v h = rw (le-ltb u v h)

low_past : (n : ℕ) (xs : List ℕ) (a b : ℕ) → n ≤ b → low_linked n xs a b ≡ false
low_past n xs a b h =
    and_left (ltb a b && ltb b n) (bit_at xs (pair_bit a b)) (and_right (ltb a b) (ltb b n) (le-ltb b n h))

low_kept : (n : ℕ) (xs : List ℕ) (a b x y : ℕ) → a < b → pair_bit a b / 8 < length xs → ((x ≡ a) × (y ≡ b) → ⊥)
    → low_linked n (turned xs (pair_bit a b)) x y ≡ low_linked n xs x y
low_kept n xs a b x y h k ne =
    ⊎_elim
    (λ (l : x < y). ap (λ z. (ltb x y && ltb y n) && z) (turned_others xs (pair_bit a b) (pair_bit x y) k (λ e. ne (place_apart a b x y h l e))))
    (λ (l : y ≤ x). low_none n (turned xs (pair_bit a b)) x y l ∙ sym (low_none n xs x y l))
    (cases_lt x y)

turned_low : (n : ℕ) (xs : List ℕ) (a b : ℕ) → a < b → b < n → needed n ≤ length xs → (x y : ℕ)
    → bit_linked n (turned xs (pair_bit a b)) x y ≡ cond (same_pair a b x y) (not (bit_linked n xs a b)) (bit_linked n xs x y)
turned_low n xs a b h k m x y =
    let inn : pair_bit a b / 8 < length xs = place_in a b n (length xs) h k m in
    let ys : List ℕ = turned xs (pair_bit a b) in
    let here : bit_linked n ys a b ≡ not (bit_linked n xs a b)
    = linked_low n ys a b h k ∙ turned_here xs (pair_bit a b) inn ∙ ap not (sym (linked_low n xs a b h k)) in
    ⊎_elim
    (λ (e : (x ≡ a) × (y ≡ b)). rw (e.0, e.1, same_straight a b) here)
    (λ o. ⊎_elim
    (λ (e : (x ≡ b) × (y ≡ a)). rw (e.0, e.1, same_crossed a b) (or_comm (low_linked n ys b a) (low_linked n ys a b) ∙ here))
    (λ (e : ((x ≡ a) × (y ≡ b) → ⊥) × ((x ≡ b) × (y ≡ a) → ⊥)).
    rw (same_other a b x y e.0 e.1, low_kept n xs a b x y h inn e.0, low_kept n xs a b y x h inn (λ z. e.1 (z.1, z.0)))) o)
    (pair_cases a b x y)

-- the bit of a pair of cards is one of the pairs' bits
pub of_below : (n u v : ℕ) → u < n → v < n → (u ≡ v → ⊥) → bit_of u v < pairs n
of_below n u v h k ne =
    ⊎_elim
    (λ (l : u < v). rw (of_low u v l) (place_below u v n l k))
    (λ (l : v ≤ u). let m : v < u = omega arith in rw (of_high u v l) (place_below v u n m h))
    (cases_lt u v)

pub turned_linked : (n : ℕ) (xs : List ℕ) (u v : ℕ) → Ends (bit_graph n xs) u v → needed n ≤ length xs → (x y : ℕ)
    → bit_linked n (turned xs (bit_of u v)) x y ≡ cond (same_pair u v x y) (not (bit_linked n xs u v)) (bit_linked n xs x y)
turned_linked n xs u v en m x y =
    ⊎_elim
    (λ (l : u < v). rw (of_low u v l) (turned_low n xs u v l en.second m x y))
    (λ (l : v ≤ u).
    let ne = en.differ in
    let lt : v < u = omega arith in
    rw (of_high u v l, same_swap u v x y, or_comm (low_linked n xs u v) (low_linked n xs v u)) (turned_low n xs v u lt en.first m x y))
    (cases_lt u v)

-- a cleared memory holds no link
low_cleared : (n : ℕ) (xs : List ℕ) (a b : ℕ) → low_linked n (cleared (needed n) xs) a b ≡ false
low_cleared n xs a b =
    ⊎_elim
    (λ (l : a < b). ⊎_elim
    (λ (k : b < n). and_right (ltb a b && ltb b n) (bit_at (cleared (needed n) xs) (pair_bit a b))
    (bit_cleared xs (needed n) (pair_bit a b) (omega (arith, in_needed n (pair_bit a b) (place_below a b n l k)))))
    (λ (k : n ≤ b). low_past n (cleared (needed n) xs) a b k) (cases_lt b n))
    (λ (l : b ≤ a). low_none n (cleared (needed n) xs) a b l)
    (cases_lt a b)

pub cleared_linked : (n : ℕ) (xs : List ℕ) (u v : ℕ) → bit_linked n (cleared (needed n) xs) u v ≡ false
cleared_linked n xs u v =
    or_from (low_linked n (cleared (needed n) xs) u v) (low_linked n (cleared (needed n) xs) v u) (low_cleared n xs u v) (low_cleared n xs v u)
