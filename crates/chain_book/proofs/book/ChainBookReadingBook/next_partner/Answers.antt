use Rattle.std.proofs.Common.{inl, inr}
use Rattle.chain_book.proofs.Calls.{ask_none, ask_runs, ask_next}
use Rattle.chain_book.proofs.book.ChainBookReadingBook.next_partner.Goals as goal

pub returns-then-u-self : goal.returns-then-u-self
returns-then-u-self c = ask_none c.args.self.now c.args.u c.args.w (elim c.then-u-self.branch [
  | goal.then-u-self-via-then-u-self w ↦ inl w.if-u-self.true
  | goal.then-u-self-via-else-u-self+then-self-eq0 w ↦ inr w.if-self-eq0.true
])

pub partner_from-requires-clause-runs : goal.partner_from-requires-clause-runs
partner_from-requires-clause-runs c = ask_runs c.args.self.now c.args.u c.args.w c.if-u-self.false c.if-self-eq0.false

pub returns : goal.returns
returns c = ask_next c.args.self.now c.args.u c.args.w c.if-u-self.false c.if-self-eq0.false c.partner_from.ensures
