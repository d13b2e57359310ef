use Rattle.std.proofs.Common.{arith}
use Rattle.search.proofs.Finds.{Ran, too_short, finds, bounded, some_kept}
use Rattle.search.proofs.group.search.Goals as goal

pub returns-then-list-from : goal.returns-then-list-from
returns-then-list-from g c =
    let h = g.B.ReadingBook.graph c.args.book.now in
    let b = g.met.B.ReadingBook.sound c.args.book.now in
    let e = c.search_from-peels.ensures in
    let ran : Ran h c.args.tolerance.p c.args.tolerance.q c.search_from-peels.result =
    record { least = c.args.tolerance.least; order = c.args.tolerance.order; search = e.outcome; height = e.height; sound = e.sound } in
    record { answer = too_short b ran c.args.list.now (omega (arith, c.if-list-from.true, c.from.ensures)); bound = tt; some = tt }

pub returns : goal.returns
returns g c =
    let h = g.B.ReadingBook.graph c.args.book.now in
    let b = g.met.B.ReadingBook.sound c.args.book.now in
    let e = c.search_from-peels.ensures in
    let ran : Ran h c.args.tolerance.p c.args.tolerance.q c.search_from-peels.result =
    record { least = c.args.tolerance.least; order = c.args.tolerance.order; search = e.outcome; height = e.height; sound = e.sound } in
    record {
      answer = finds b ran c.args.list.now c.write_cards.new.list c.cards-n.result c.cards-n.ensures.is (omega (arith, c.if-list-from.false, c.from.ensures)) c.write_cards.ensures;
      bound = bounded b ran;
      some = some_kept b ran;
    }
