use Rattle.findgroup.proofs.trouble.TroubleDisplay.fmt.Goals as goal

pub returns-in-BadLink-clause-writes : goal.returns-in-BadLink-clause-writes
returns-in-BadLink-clause-writes g c = rw c.in-BadLink.is c.write-in-BadLink.ensures.writes
