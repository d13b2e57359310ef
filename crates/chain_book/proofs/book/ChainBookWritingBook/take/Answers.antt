use Rattle.chain_book.proofs.Calls.{take_some, take_first, take_second, take_invariant, take_links, take_spare}
use Rattle.chain_book.proofs.book.ChainBookWritingBook.take.Goals as goal

pub remove-requires : goal.remove-requires
remove-requires c = take_first c.args.self.now c.args.u c.args.v c.in_ok-may_take.ensures

pub remove-requires-2 : goal.remove-requires-2
remove-requires-2 c =
    take_second c.args.self.now c.args.u c.args.v c.in_ok-may_take.ensures
    c.remove.ensures.records c.remove.ensures.free

pub invariant_of-self : goal.invariant_of-self
invariant_of-self c =
    take_invariant c.args.self.now c.args.u c.args.v c.in_ok-may_take.ensures
    c.remove.ensures.records c.remove.ensures.free
    c.remove-2.ensures.records c.remove-2.ensures.free

pub returns-clause-links : goal.returns-clause-links
returns-clause-links c =
    take_links c.args.self.now c.args.u c.args.v c.in_ok-may_take.ensures
    c.remove.ensures.records c.remove.ensures.free
    c.remove-2.ensures.records c.remove-2.ensures.free

pub returns-clause-free : goal.returns-clause-free
returns-clause-free c =
    take_spare c.args.self.now c.args.u c.args.v c.in_ok-may_take.ensures
    c.remove.ensures.records c.remove.ensures.free
    c.remove-2.ensures.records c.remove-2.ensures.free

pub overflow_sub-self : goal.overflow_sub-self
overflow_sub-self c = take_some c.args.self.now c.args.u c.args.v c.in_ok-may_take.ensures
