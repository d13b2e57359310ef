use Rattle.std.proofs.Common.{◌∙◌, length, sym, ap, arith}
use Rattle.closed_book.proofs.Chunks.{length_chunks}
use Rattle.closed_book.proofs.Counts.{links_are, links_small}
use Rattle.closed_book.proofs.book.ClosedBookReadingBook.links.Goals as goal

pub overflow_cast-result : goal.overflow_cast-result
overflow_cast-result c = omega (arith, length_chunks c.args.self.now.list.now, ap length c.pairs.ensures, links_small c.args.self.now.cards c.args.self.now.list.now c.args.self.now.ok)

pub returns : goal.returns
returns c = ap length c.pairs.ensures ∙ length_chunks c.args.self.now.list.now ∙ sym (links_are c.args.self.now.cards c.args.self.now.list.now c.args.self.now.ok)
