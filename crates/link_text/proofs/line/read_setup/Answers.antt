use Rattle.std.proofs.Common.{rules}
use Rattle.link_text.proofs.Backs.{setup_written}
use Rattle.link_text.proofs.line.read_setup.Goals as goal

pub returns-in_err-cards-clause-written : goal.returns-in_err-cards-clause-written
returns-in_err-cards-clause-written c = setup_written c.args.line.now _ (search rules)

pub returns-clause-written : goal.returns-clause-written
returns-clause-written c = setup_written c.args.line.now _ (search rules)
