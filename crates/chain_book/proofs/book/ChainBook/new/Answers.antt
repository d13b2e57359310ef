use Rattle.chain_book.proofs.Layouts.{made_invariant, made_unlinked, made_spare}
use Rattle.chain_book.proofs.book.ChainBook.new.Goals as goal

pub invariant_of-result : goal.invariant_of-result
invariant_of-result c = made_invariant c.args.cards c.args.records.now c.of-layout.ensures.cards c.of-layout.ensures.needed c.lay_out.ensures c.first_free.ensures

pub returns-clause-none : goal.returns-clause-none
returns-clause-none c = made_unlinked c.args.cards c.args.records.now c.of-layout.ensures.cards c.of-layout.ensures.needed c.lay_out.ensures c.first_free.ensures

pub returns-clause-free : goal.returns-clause-free
returns-clause-free c = made_spare c.args.cards c.args.records.now c.of-layout.ensures.cards c.of-layout.ensures.needed c.lay_out.ensures c.first_free.ensures
