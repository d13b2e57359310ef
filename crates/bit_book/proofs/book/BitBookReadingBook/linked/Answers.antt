use Rattle.bit_book.proofs.Writes.{ready, byte_in}
use Rattle.bit_book.proofs.book.BitBookReadingBook.linked.Goals as goal

pub is_set-requires : goal.is_set-requires
is_set-requires c =
    let s = c.args.self.now in
    byte_in s.cards s.memory.now c.args.u c.args.v c.pair_bit.result c.pair_bit.ensures
    (ready s.cards s.memory.now c.args.u c.args.v c.if-u-self.false c.if-v-self.false c.if-u-v.false s.fits)
