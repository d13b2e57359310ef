use Rattle.std.proofs.Common.{◌≡◌, ℕ, zero, suc, ◌%◌, ◌<◌, Bool, ◌&&◌, ltb, List, [], length, get_or, ap, arith}
use Rattle.std.proofs.lemmas.Bool.Decides.{nat_tests}
use Rattle.closed_book.specs.Lists.{pair_count, pair_at, before, pair_suits}
use Rattle.closed_book.proofs.Tests.{every_not}
use Rattle.closed_book.proofs.Pairs.{array}
use Rattle.closed_book.proofs.Chunks.{chunks, length_chunks, chunk_at}
use Rattle.closed_book.proofs.list.in_order.Invariants.{pair_below}
use Rattle.closed_book.proofs.list.in_order.Goals as goal

-- what the loop tests of the pair a and of the pair before it
abbrev pub tested : ℕ → List ℕ → ℕ × ℕ → Bool
tested n a last = (ltb (get_or a 0 0) (get_or a 1 0) && ltb (get_or a 1 0) n) && before last (get_or a 0 0, get_or a 1 0)

tests : (n : ℕ) (xs : List ℕ) (k : ℕ) (a : List ℕ) (last : ℕ × ℕ) → a ≡ array (pair_at xs k) → last ≡ pair_below xs k → pair_suits n xs k ≡ tested n a last
tests n xs zero a last e f = grind (arith, nat_tests)
tests n xs (suc k) a last e f = rw (e, f) (grind (arith, nat_tests))

-- where the loop is: at a pair of the list, which is as it tests
met : (n : ℕ) (xs : List ℕ) (k : ℕ) (ps : List (List ℕ)) (last : ℕ × ℕ) → ps ≡ chunks xs → k < length ps → last ≡ pair_below xs k → (k < pair_count xs) × (get_or ps k [] ≡ array (pair_at xs k)) × (pair_suits n xs k ≡ tested n (get_or ps k []) last)
met n xs k ps last e l f =
    let i : k < pair_count xs = omega (arith, ap length e, length_chunks xs) in
    let a : get_or ps k [] ≡ array (pair_at xs k) = rw e (chunk_at xs k [] i) in
    (i, a, tests n xs k _ last a f)

pub returns-then-lower-higher : goal.returns-then-lower-higher
returns-then-lower-higher c =
    let m = met c.args.cards c.args.list.now c.loop-pair.pair-index _ c.loop-pair.last c.as_chunks.ensures.front c.loop-pair-test.true c.loop-pair.invariant.1 in
    grind (arith, nat_tests, m.2, every_not (pair_suits c.args.cards c.args.list.now) (pair_count c.args.list.now) c.loop-pair.pair-index m.0)

pub loop-pair-preserved : goal.loop-pair-preserved
loop-pair-preserved c =
    let m = met c.args.cards c.args.list.now c.loop-pair.pair-index _ c.loop-pair.last c.as_chunks.ensures.front c.loop-pair-test.true c.loop-pair.invariant.1 in
    (grind (arith, nat_tests, m.2), grind (arith, nat_tests, m.1))

pub returns : goal.returns
returns c = let none_left : length c.args.list.now % 2 ≡ 0 = omega arith in grind (arith, nat_tests)
