use Rattle.std.proofs.Common.{arith}
use Rattle.chain_book.proofs.Walks.{next_none, next_within, next_some}
use Rattle.chain_book.proofs.chain.partner_from.Goals as goal

pub returns-in-0 : goal.returns-in-0
returns-in-0 c = next_none c.args.records.now c.args.u c.args.w c.requires.runs c.walk-at.ensures.is c.in-0.is

pub bounds-records-next : goal.bounds-records-next
bounds-records-next c = next_within c.args.records.now c.args.u c.args.w c.requires.runs c.walk-at.ensures.is (λ e. omega arith)

pub returns-in_default : goal.returns-in_default
returns-in_default c = next_some c.args.records.now c.args.u c.args.w c.requires.runs c.walk-at.ensures.is (λ e. omega arith)
