use Rattle.search.specs.Rows.{rules_of}
use Rattle.search.proofs.Peelings.{Peeling}
use Rattle.search.proofs.peeling.peel_book.Given as goal

abbrev pub invariant-loop-t : goal.invariant-loop-t
invariant-loop-t g l = Peeling (rules_of (g.B.ReadingBook.graph l.book) l.setting) l.t l.levels l.best
