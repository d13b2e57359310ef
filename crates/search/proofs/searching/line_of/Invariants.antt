use Rattle.std.proofs.Common.{◌≡◌}
use Rattle.search.specs.Rows.{marked}
use Rattle.search.proofs.Listings.{count}
use Rattle.search.proofs.Tallies.{ends_below}
use Rattle.search.proofs.searching.line_of.Given as goal

-- the cards of the set below u are counted, and their partners in it
abbrev pub invariant-loop-u : goal.invariant-loop-u
invariant-loop-u g l =
    (l.cards ≡ count (marked l.set) l.u)
    × (l.ends ≡ ends_below (g.B.ReadingBook.graph l.book) (marked l.set) l.u)
