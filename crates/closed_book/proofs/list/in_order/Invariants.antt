use Rattle.std.proofs.Common.{◌≡◌, ℕ, zero, suc, true, List}
use Rattle.closed_book.specs.Lists.{pair_at, every, pair_suits}
use Rattle.closed_book.proofs.list.in_order.Given as goal

-- the pair below the place k, or what comes before every pair
abbrev pub pair_below : List ℕ → ℕ → ℕ × ℕ
pair_below xs zero = (0, 0)
pair_below xs (suc k) = pair_at xs k

abbrev pub invariant-loop-pair : goal.invariant-loop-pair
invariant-loop-pair l = (every (pair_suits l.cards l.list) l.pair-index ≡ true) × (l.last ≡ pair_below l.list l.pair-index)
