use Rattle.std.proofs.Common.{ap, sym, ◌∙◌, arith}
use Rattle.books.proofs.Links.{take_may}
use Rattle.bit_book.specs.Layout.{turned}
use Rattle.bit_book.specs.Meaning.{bit_graph}
use Rattle.bit_book.proofs.Writes.{take_graph, take_tally, take_kept}
use Rattle.bit_book.proofs.book.BitBookWritingBook.take.Goals as goal

pub overflow_sub-self : goal.overflow_sub-self
overflow_sub-self c =
    let s = c.args.self.now in
    let m = take_may (bit_graph s.cards s.memory.now) c.args.u c.args.v (sym c.in_ok-may_take.ensures) in
    omega (arith, s.tally, take_tally s.cards s.memory.now c.args.u c.args.v (record { ends = m.ends; fits = s.fits }) m.held)

pub invariant_of-self : goal.invariant_of-self
invariant_of-self c =
    let s = c.args.self.now in
    let m = take_may (bit_graph s.cards s.memory.now) c.args.u c.args.v (sym c.in_ok-may_take.ensures) in
    let k = take_kept s.cards s.links s.memory.now c.args.u c.args.v (record { ends = m.ends; fits = s.fits }) m.held (s.fits, s.tally, s.padding) in
    rw (c.turn.ensures ∙ ap (turned s.memory.now) c.pair_bit.ensures)
    (record { least = s.least; most = s.most; fits = k.0; tally = k.1; padding = k.2 })

pub returns-clause-links : goal.returns-clause-links
returns-clause-links c =
    let s = c.args.self.now in
    let m = take_may (bit_graph s.cards s.memory.now) c.args.u c.args.v (sym c.in_ok-may_take.ensures) in
    rw (c.turn.ensures ∙ ap (turned s.memory.now) c.pair_bit.ensures)
    (take_graph s.cards s.memory.now c.args.u c.args.v (record { ends = m.ends; fits = s.fits }) m.held)
