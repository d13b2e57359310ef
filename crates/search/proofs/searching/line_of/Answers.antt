use Rattle.std.proofs.Common.{◌≡◌, arith}
use Rattle.books.proofs.Sums.{ones_le}
use Rattle.search.specs.Rows.{marked}
use Rattle.search.proofs.Tallies.{ends_few, set_line}
use Rattle.search.proofs.searching.line_of.Goals as goal

pub overflow_add-cards : goal.overflow_add-cards
overflow_add-cards g c = omega (arith, c.loop-u.invariant.0, ones_le (marked c.args.set.now) c.loop-u.u)

pub overflow_add-ends : goal.overflow_add-ends
overflow_add-ends g c =
    let h = g.B.ReadingBook.graph c.args.book.now in
    let b = g.met.B.ReadingBook.sound c.args.book.now in
    omega (arith, c.loop-u.invariant.1, c.partners_in.type_inv, ends_few h (marked c.args.set.now) c.loop-u.u (omega (arith, b.most, c.cards-n.ensures.is)) b.most)

pub returns : goal.returns
returns g c =
    let h = g.B.ReadingBook.graph c.args.book.now in
    let b = g.met.B.ReadingBook.sound c.args.book.now in
    let all : c.loop-u.u ≡ h.cards = omega (arith, c.cards-n.ensures.is) in
    set_line h (marked c.args.set.now) c.loop-u.u c.loop-u.cards c.loop-u.ends b.lawful all c.loop-u.invariant.0 c.loop-u.invariant.1
