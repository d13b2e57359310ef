use Rattle.search.specs.Rows.{rules_of}
use Rattle.search.proofs.Rounds.{MidRound}
use Rattle.search.proofs.round.round.Given as goal

abbrev pub invariant-loop-u : goal.invariant-loop-u
invariant-loop-u g l =
    MidRound (rules_of (g.B.ReadingBook.graph l.book) l.setting) l.t l.u l.levels l.cards l.ends l.stayed
