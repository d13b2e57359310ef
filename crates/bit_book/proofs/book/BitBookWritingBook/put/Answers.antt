use Rattle.std.proofs.Common.{◌≡◌, ap, sym, ◌∙◌, arith, rules}
use Rattle.std.specs.Result.{result_err}
use Rattle.books.specs.Refusals.{put_refusal}
use Rattle.books.proofs.Sums.{tri_small}
use Rattle.books.proofs.Links.{links_most, put_may}
use Rattle.bit_book.specs.Layout.{turned}
use Rattle.bit_book.specs.Meaning.{bit_graph}
use Rattle.bit_book.proofs.Writes.{byte_in, put_graph, put_kept, never_full}
use Rattle.bit_book.proofs.book.BitBookWritingBook.put.Goals as goal

pub turn-requires : goal.turn-requires
turn-requires c =
    let s = c.args.self.now in
    let m = put_may (bit_graph s.cards s.memory.now) c.places.result c.args.u c.args.v (sym c.in_ok-may_put.ensures) in
    byte_in s.cards s.memory.now c.args.u c.args.v c.pair_bit.result c.pair_bit.ensures (record { ends = m.ends; fits = s.fits })

pub overflow_add-self : goal.overflow_add-self
overflow_add-self c =
    let s = c.args.self.now in
    omega (arith, s.tally, links_most (bit_graph s.cards s.memory.now), tri_small s.cards s.most)

pub invariant_of-self : goal.invariant_of-self
invariant_of-self c =
    let s = c.args.self.now in
    let m = put_may (bit_graph s.cards s.memory.now) c.places.result c.args.u c.args.v (sym c.in_ok-may_put.ensures) in
    let k = put_kept s.cards s.links s.memory.now c.args.u c.args.v (record { ends = m.ends; fits = s.fits }) m.out (s.fits, s.tally, s.padding) in
    rw (c.turn.ensures ∙ ap (turned s.memory.now) c.pair_bit.ensures)
    (record { least = s.least; most = s.most; fits = k.0; tally = k.1; padding = k.2 })

pub returns-clause-links : goal.returns-clause-links
returns-clause-links c =
    let s = c.args.self.now in
    let m = put_may (bit_graph s.cards s.memory.now) c.places.result c.args.u c.args.v (sym c.in_ok-may_put.ensures) in
    rw (c.turn.ensures ∙ ap (turned s.memory.now) c.pair_bit.ensures)
    (put_graph s.cards s.memory.now c.args.u c.args.v (record { ends = m.ends; fits = s.fits }) m.out)

pub returns-in_err-may_put-clause-room : goal.returns-in_err-may_put-clause-room
returns-in_err-may_put-clause-room c = λ e.
    let s = c.args.self.now in
    let a : result_err c.from_residual.result ≡ put_refusal (bit_graph s.cards s.memory.now) c.places.result c.args.u c.args.v = search rules in
    never_full s.cards c.places.result s.memory.now c.args.u c.args.v s.fits c.places.ensures (sym a ∙ ap result_err e)
