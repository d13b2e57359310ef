use Rattle.std.proofs.Common.{◌-◌, ◌*◌}
use Rattle.search.specs.Rows.{marked}
use Rattle.peel.proofs.Searches.{rank}
use Rattle.search.proofs.Searchings.{Searching}
use Rattle.search.proofs.searching.search_from.Given as goal

abbrev pub invariant-search : goal.invariant-search
invariant-search g l =
    Searching (g.B.ReadingBook.graph l.book) l.tolerance.p l.tolerance.q l.height (marked l.initial.group) (marked l.group) l.line l.peels

abbrev pub decreases-search : goal.decreases-search
decreases-search g l =
    let h = g.B.ReadingBook.graph l.book in
    h.cards * h.cards * h.cards - rank h (marked l.group)
