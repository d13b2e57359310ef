-- The list that a closed book stands on: two numbers for each link, in ascending order.
use Rattle.std.specs.Prelude.{ℕ, zero, suc, ◌+◌, ◌-◌, ◌*◌, ◌/◌, ◌%◌, Bool, true, cond, not, ◌&&◌, ◌||◌, List, length, is_some, Some, None, Option, ◌==◌, nat_lt, slice_index}
use Rattle.books.specs.declared.refusal.Refusal.{Refusal}
use Rattle.books.specs.declared.refusal.Refusal.TheVariants.{Unsuitable, BadList}
use Rattle.books.specs.Books.{cards_suit}

-- how many pairs of numbers the list has
abbrev pub pair_count : List ℕ → ℕ
pair_count xs = length xs / 2

-- the pair at the place k
abbrev pub pair_at : List ℕ → ℕ → ℕ × ℕ
pair_at xs k = (slice_index xs (2 * k), slice_index xs (2 * k + 1))

-- p is two of n cards, the lower first
abbrev pub two_cards : ℕ → ℕ × ℕ → Bool
two_cards n p = nat_lt p.0 p.1 && nat_lt p.1 n

-- p comes before q: by the first number, and where that is the same by the second
abbrev pub before : ℕ × ℕ → ℕ × ℕ → Bool
before p q = nat_lt p.0 q.0 || (p.0 == q.0 && nat_lt p.1 q.1)

-- the pair at the place k is the first, or comes after the pair at the place below
abbrev pub ascends : List ℕ → ℕ → Bool
ascends xs k = k == 0 || before (pair_at xs (k - 1)) (pair_at xs k)

-- the pair at the place k keeps the rule of the list
abbrev pub pair_suits : ℕ → List ℕ → ℕ → Bool
pair_suits n xs k = two_cards n (pair_at xs k) && ascends xs k

-- every number below k passes the test
abbrev pub every : (ℕ → Bool) → ℕ → Bool
every test zero = true
every test (suc k) = every test k && test k

-- the list keeps its rule: no number is left over, and every pair keeps it
abbrev pub list_suits : ℕ → List ℕ → Bool
list_suits n xs = length xs % 2 == 0 && every (pair_suits n xs) (pair_count xs)

-- why no book of n cards can stand on the list, if none can
abbrev pub list_refusal : ℕ → List ℕ → Option Refusal
list_refusal n xs =
    cond (cards_suit n)
    (cond (list_suits n xs) None (Some BadList))
    (Some Unsuitable)

-- nothing is refused: a book of n cards can stand on the list
abbrev pub suits : ℕ → List ℕ → Bool
suits n xs = not (is_some (list_refusal n xs))
