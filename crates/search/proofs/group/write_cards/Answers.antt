use Rattle.std.proofs.Common.{◌≡◌, ℕ, ◌+◌, ◌<◌, [], ◌∷◌, ◌++◌, length, set, refl, subst, rules, arith, length-append}
use Rattle.std.proofs.lemmas.Iterator.{YieldsList-from_range}
use Rattle.std.proofs.lemmas.Iterator.Consumers.{YieldsList-at, YieldsList-from_filter, YieldsList-from_enumerate, YieldsList-turn, YieldsList-end}
use Rattle.std.specs.List.{range_with_len, filter}
use borrow.Author.Tests.{tests}
use Rattle.books.proofs.Sums.{ones_le}
use Rattle.search.specs.Rows.{marked}
use Rattle.search.proofs.Listings.{Item, item_at, Written, written_more, written_all, filter_count}
use Rattle.search.proofs.group.write_cards.Goals as goal

-- each turn has the next of the marked numbers
item : (c : goal.In-Some) → Item (filter (marked c.args.marks.now) (range_with_len 0 c.args.n)) (length c.loop-at.yielded) c.in-Some.at c.in-Some.v
item c =
    let X = marked c.args.marks.now in
    let n = c.args.n in
    let numbers = YieldsList-at c.filter.ensures.source (YieldsList-from_range 0 n n refl (omega arith)) in
    item_at (filter X (range_with_len 0 n)) (length c.loop-at.yielded) c.in-Some.at c.in-Some.v
    (YieldsList-turn (YieldsList-at c.into_iter-at-iterator.ensures.into_iter_gives
    (YieldsList-from_enumerate (YieldsList-at c.enumerate-at-items.ensures.source
    (YieldsList-from_filter _ X numbers c.filter.ensures.closure (λ x r q k. search (rules, tests)))) c.enumerate-at-items.ensures.count))
    c.loop-at.yielded c.loop-at.at-iterator c.loop-at.yielded_by c.next.result c.next.new.self (c.in-Some.at, c.in-Some.v) c.in-Some.is c.next.ensures.steps)

-- and there is a place for it
place : (c : goal.In-Some) → length c.loop-at.yielded < length c.args.list.now
place c = omega (arith, item c, filter_count (marked c.args.marks.now) c.args.n, c.requires.room)

pub bounds-list-at : goal.bounds-list-at
bounds-list-at c = omega (arith, item c, place c)

pub offset_bounds-list-at : goal.offset_bounds-list-at
offset_bounds-list-at c = omega (arith, item c, filter_count (marked c.args.marks.now) c.args.n, ones_le (marked c.args.marks.now) c.args.n, c.requires.few)

pub loop-at-preserved : goal.loop-at-preserved
loop-at-preserved c =
    let xs = filter (marked c.args.marks.now) (range_with_len 0 c.args.n) in
    let k = length c.loop-at.yielded in
    let e : k + 1 ≡ length (c.loop-at.yielded ++ (c.in-Some.at, c.in-Some.v) ∷ []) = omega (arith, length-append c.loop-at.yielded ((c.in-Some.at, c.in-Some.v) ∷ [])) in
    subst (λ (j : ℕ). Written xs j c.args.list.now (set c.loop-at.list c.in-Some.at c.in-Some.v)) e (written_more xs c.args.list.now c.loop-at.list k c.in-Some.at c.in-Some.v c.loop-at.invariant (item c) (place c))

pub returns : goal.returns
returns c =
    let X = marked c.args.marks.now in
    let n = c.args.n in
    let numbers = YieldsList-at c.filter.ensures.source (YieldsList-from_range 0 n n refl (omega arith)) in
    written_all X n (length c.loop-at.yielded) c.args.list.now c.loop-at.list c.loop-at.invariant
    (YieldsList-end (YieldsList-at c.into_iter-at-iterator.ensures.into_iter_gives
    (YieldsList-from_enumerate (YieldsList-at c.enumerate-at-items.ensures.source
    (YieldsList-from_filter _ X numbers c.filter.ensures.closure (λ x r q k. search (rules, tests)))) c.enumerate-at-items.ensures.count))
    c.loop-at.yielded c.loop-at.at-iterator c.loop-at.yielded_by c.next.result c.next.new.self c.in-None.is c.next.ensures.steps).1
