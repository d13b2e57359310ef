-- What a making, a put and a take leave.
use Rattle.std.proofs.Common.{◌≡◌, ℕ, ◌+◌, ◌-◌, ◌*◌, ◌/◌, ◌<◌, ◌≤◌, true, false, cond, not, List, length, Some, sym, refl, ap, ◌∙◌, arith, length-set}
use Rattle.books.specs.Graphs.{weight, link_count, same_pair, with_link, without_link}
use Rattle.books.specs.Sums.{one}
use Rattle.books.specs.declared.refusal.Refusal.TheVariants.{Full}
use Rattle.books.specs.Refusals.{put_refusal}
use Rattle.books.proofs.Sums.{pairs_none, tri_is}
use Rattle.books.proofs.Links.{Ends, graph_same, with_count, without_count, links_most, put_full}
use Rattle.bit_book.specs.Layout.{pairs, bit_of, needed, bit_at, cleared, turned}
use Rattle.bit_book.specs.Meaning.{bit_graph, bit_linked}
use Rattle.bit_book.specs.Laws.{bit_lawful}
use Rattle.bit_book.proofs.Bytes.{bit_cleared, turned_others}
use Rattle.bit_book.proofs.Places.{in_needed, of_below, turned_linked, cleared_linked}

pub cleared_count : (n : ℕ) (xs : List ℕ) → link_count (bit_graph n (cleared (needed n) xs)) ≡ 0
cleared_count n xs =
    pairs_none (weight (bit_graph n (cleared (needed n) xs))) n (λ v u _ _. ap one (cleared_linked n xs v u))

-- the ends are two cards of the book, whose bits the memory has
pub record Ready (n : ℕ) (xs : List ℕ) (u v : ℕ) : Type 0 where
  pub ends : Ends (bit_graph n xs) u v
  pub fits : needed n ≤ length xs

pub ready : (n : ℕ) (xs : List ℕ) (u v : ℕ) → u < n → v < n → (u ≡ v → ⊥) → needed n ≤ length xs → Ready n xs u v
ready n xs u v h k ne f = record { ends = record { first = h; second = k; differ = ne }; fits = f }

-- the byte of the pair's bit k is there
pub byte_in : (n : ℕ) (xs : List ℕ) (u v k : ℕ) → k ≡ bit_of u v → Ready n xs u v → k / 8 < length xs
byte_in n xs u v k e r =
    omega (arith, ap (λ j. j / 8) e, in_needed n (bit_of u v) (of_below n u v r.ends.first r.ends.second r.ends.differ), r.fits)

pub turned_length : (xs : List ℕ) (k : ℕ) → length (turned xs k) ≡ length xs
turned_length xs k = simp length-set

pub put_graph : (n : ℕ) (xs : List ℕ) (u v : ℕ) → Ready n xs u v → bit_linked n xs u v ≡ false
    → bit_graph n (turned xs (bit_of u v)) ≡ with_link (bit_graph n xs) u v
put_graph n xs u v r e = graph_same _ _ refl (λ x y.
    turned_linked n xs u v r.ends r.fits x y ∙ ap (λ z. cond (same_pair u v x y) (not z) (bit_linked n xs x y)) e)

pub take_graph : (n : ℕ) (xs : List ℕ) (u v : ℕ) → Ready n xs u v → bit_linked n xs u v ≡ true
    → bit_graph n (turned xs (bit_of u v)) ≡ without_link (bit_graph n xs) u v
take_graph n xs u v r e = graph_same _ _ refl (λ x y.
    turned_linked n xs u v r.ends r.fits x y ∙ ap (λ z. cond (same_pair u v x y) (not z) (bit_linked n xs x y)) e)

pub put_tally : (n : ℕ) (xs : List ℕ) (u v : ℕ) → Ready n xs u v → bit_linked n xs u v ≡ false
    → link_count (bit_graph n (turned xs (bit_of u v))) ≡ link_count (bit_graph n xs) + 1
put_tally n xs u v r e = ap link_count (put_graph n xs u v r e) ∙ with_count (bit_graph n xs) u v (bit_lawful n xs) r.ends e

pub take_tally : (n : ℕ) (xs : List ℕ) (u v : ℕ) → Ready n xs u v → bit_linked n xs u v ≡ true
    → link_count (bit_graph n xs) ≡ link_count (bit_graph n (turned xs (bit_of u v))) + 1
take_tally n xs u v r e =
    without_count (bit_graph n xs) u v (bit_lawful n xs) r.ends e ∙ ap (λ g. link_count g + 1) (sym (take_graph n xs u v r e))

-- a pair that is not linked leaves a place
pub room_left : (n : ℕ) (xs : List ℕ) (u v : ℕ) → Ready n xs u v → bit_linked n xs u v ≡ false → link_count (bit_graph n xs) < pairs n
room_left n xs u v r e =
    omega (arith, with_count (bit_graph n xs) u v (bit_lawful n xs) r.ends e, links_most (with_link (bit_graph n xs) u v), tri_is n)

-- so being full is never the first thing in the way
pub never_full : (n p : ℕ) (xs : List ℕ) (u v : ℕ) → needed n ≤ length xs → p ≡ pairs n → put_refusal (bit_graph n xs) p u v ≡ Some Full → ⊥
never_full n p xs u v f e h =
    let m = put_full (bit_graph n xs) p u v h in
    omega (arith, e, m.full, room_left n xs u v (record { ends = m.ends; fits = f }) m.out)

-- a turned pair's bit leaves the bits that belong to no pair
pub padding_kept : (n : ℕ) (xs : List ℕ) (u v : ℕ) → Ready n xs u v
    → ((k : ℕ) → pairs n ≤ k → k < 8 * needed n → bit_at xs k ≡ false)
    → (k : ℕ) → pairs n ≤ k → k < 8 * needed n → bit_at (turned xs (bit_of u v)) k ≡ false
padding_kept n xs u v r h k l m =
    turned_others xs (bit_of u v) k (byte_in n xs u v (bit_of u v) refl r)
    (λ e. omega (arith, e, of_below n u v r.ends.first r.ends.second r.ends.differ))
    ∙ h k l m

-- what the book keeps of n cards, l links and the memory
abbrev pub Kept : ℕ → ℕ → List ℕ → Type 0
Kept n l xs = (needed n ≤ length xs) × (l ≡ link_count (bit_graph n xs)) × ((k : ℕ) → pairs n ≤ k → k < 8 * needed n → bit_at xs k ≡ false)

pub made_kept : (n : ℕ) (xs ys : List ℕ) → needed n ≤ length ys → ys ≡ cleared (needed n) xs → Kept n 0 ys
made_kept n xs ys h e = (h, sym (ap (λ zs. link_count (bit_graph n zs)) e ∙ cleared_count n xs), λ k l m. ap (λ zs. bit_at zs k) e ∙ bit_cleared xs (needed n) k m)

pub put_kept : (n l : ℕ) (xs : List ℕ) (u v : ℕ) → Ready n xs u v → bit_linked n xs u v ≡ false
    → Kept n l xs → Kept n (l + 1) (turned xs (bit_of u v))
put_kept n l xs u v r f h = (
  omega (arith, h.0, turned_length xs (bit_of u v)),
  omega (arith, h.1, put_tally n xs u v r f),
  padding_kept n xs u v r h.2,
)

pub take_kept : (n l : ℕ) (xs : List ℕ) (u v : ℕ) → Ready n xs u v → bit_linked n xs u v ≡ true
    → Kept n l xs → Kept n (l - 1) (turned xs (bit_of u v))
take_kept n l xs u v r f h = (
  omega (arith, h.0, turned_length xs (bit_of u v)),
  omega (arith, h.1, take_tally n xs u v r f),
  padding_kept n xs u v r h.2,
)
