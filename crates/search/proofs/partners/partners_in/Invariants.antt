use Rattle.std.proofs.Common.{◌≡◌, ◌-◌, ◌≤◌}
use Rattle.books.specs.Sums.{sum_to}
use Rattle.peel.specs.Sets.{Cards}
use Rattle.search.specs.Rows.{Tells}
use Rattle.search.proofs.Walks.{counts}
use Rattle.search.proofs.partners.partners_in.Given as goal

-- the partners below `from` are counted, and no more are found than there are numbers
abbrev pub invariant-loop-v : goal.invariant-loop-v
invariant-loop-v g l =
    ((X : Cards) → Tells (g.B.ReadingBook.graph l.book) (goal.F-post g l.is_in) X → l.found ≡ sum_to (counts (g.B.ReadingBook.graph l.book) X l.u) l.from)
    × (l.from ≤ (g.B.ReadingBook.graph l.book).cards)
    × (l.found ≤ l.from)

abbrev pub decreases-loop-v : goal.decreases-loop-v
decreases-loop-v g l = (g.B.ReadingBook.graph l.book).cards - l.from
