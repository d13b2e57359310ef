use Rattle.std.proofs.Common.{length}
use Rattle.std.specs.List.{range_with_len, filter}
use Rattle.search.specs.Rows.{marked}
use Rattle.search.proofs.Listings.{Written}
use Rattle.search.proofs.group.write_cards.Given as goal

abbrev pub invariant-loop-at : goal.invariant-loop-at
invariant-loop-at l = Written (filter (marked l.marks) (range_with_len 0 l.n)) (length l.yielded) l.initial.list l.list
