use Rattle.std.proofs.Common.{arith}
use Rattle.findgroup.proofs.Rooms.{has_room}
use Rattle.findgroup.proofs.found.group_of.Goals as goal

pub unwrap-requires : goal.unwrap-requires
unwrap-requires g c =
    let h = g.B.ReadingBook.graph c.args.book.now in
    let b = g.met.B.ReadingBook.sound c.args.book.now in
    has_room c.search.result c.search.ensures.answer (omega (arith, b.most, c.told-list))
