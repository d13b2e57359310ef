use Rattle.std.proofs.Common.{true, false, ◌∙◌, arith}
use Rattle.books.proofs.Partners.{next_some}
use Rattle.search.proofs.Walks.{walk_on, walk_done}
use Rattle.search.proofs.partners.partners_in.Goals as goal
use Rattle.search.proofs.partners.partners_in.Goals.{then-is_in, else-is_in}

pub loop-v-preserved : goal.loop-v-preserved
loop-v-preserved g c =
    let h = g.B.ReadingBook.graph c.args.book.now in
    let b = g.met.B.ReadingBook.sound c.args.book.now in
    let n = next_some h c.args.u c.loop-v.from c.in-Some.v c.in-Some.ensures.is in
    elim c.if-is_in.branch [
      | then-is_in w ↦ (
        λ X tells. omega (arith, w.found-is, c.loop-v.invariant.0 X tells, walk_on h X c.args.u c.loop-v.from c.in-Some.v true c.in-Some.ensures.is (tells _ n.card _ w.if-is_in.ensures)),
        omega (arith, n.card),
        omega (arith, w.found-is, n.above, c.loop-v.invariant.2),
      )
      | else-is_in w ↦ (
        λ X tells. omega (arith, w.found-is, c.loop-v.invariant.0 X tells, walk_on h X c.args.u c.loop-v.from c.in-Some.v false c.in-Some.ensures.is (tells _ n.card _ w.if-is_in.ensures)),
        omega (arith, n.card),
        omega (arith, w.found-is, n.above, c.loop-v.invariant.2),
      )
    ]

pub returns : goal.returns
returns g c =
    let h = g.B.ReadingBook.graph c.args.book.now in
    let b = g.met.B.ReadingBook.sound c.args.book.now in
    λ X tells. c.loop-v.invariant.0 X tells ∙ walk_done h X c.args.u c.loop-v.from c.in_default.ensures.is c.loop-v.invariant.1
