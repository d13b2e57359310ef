use Rattle.std.proofs.Common.{rules}
use Rattle.link_text.proofs.Backs.{link_written}
use Rattle.link_text.proofs.line.read_link.Goals as goal

pub returns-in_err-u-clause-written : goal.returns-in_err-u-clause-written
returns-in_err-u-clause-written c = link_written c.args.line.now _ (search rules)

pub returns-clause-written : goal.returns-clause-written
returns-clause-written c = link_written c.args.line.now _ (search rules)
