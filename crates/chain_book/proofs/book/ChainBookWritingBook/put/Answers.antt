use Rattle.chain_book.proofs.Calls.{put_first, put_second, put_invariant, put_links, put_spare}
use Rattle.chain_book.proofs.book.ChainBookWritingBook.put.Goals as goal

pub insert-requires : goal.insert-requires
insert-requires c = put_first c.args.self.now c.args.u c.args.v c.places.ensures c.in_ok-may_put.ensures

pub insert-requires-2 : goal.insert-requires-2
insert-requires-2 c =
    put_second c.args.self.now c.args.u c.args.v c.places.ensures c.in_ok-may_put.ensures
    c.insert.ensures.records c.insert.ensures.free

pub invariant_of-self : goal.invariant_of-self
invariant_of-self c =
    put_invariant c.args.self.now c.args.u c.args.v c.places.ensures c.in_ok-may_put.ensures
    c.insert.ensures.records c.insert.ensures.free
    c.insert-2.ensures.records c.insert-2.ensures.free

pub returns-clause-links : goal.returns-clause-links
returns-clause-links c =
    put_links c.args.self.now c.args.u c.args.v c.places.ensures c.in_ok-may_put.ensures
    c.insert.ensures.records c.insert.ensures.free
    c.insert-2.ensures.records c.insert-2.ensures.free

pub returns-clause-free : goal.returns-clause-free
returns-clause-free c =
    put_spare c.args.self.now c.args.u c.args.v c.places.ensures c.in_ok-may_put.ensures
    c.insert.ensures.records c.insert.ensures.free
    c.insert-2.ensures.records c.insert-2.ensures.free
