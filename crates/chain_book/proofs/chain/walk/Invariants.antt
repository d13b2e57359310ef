use Rattle.std.proofs.Common.{◌≡◌, ◌<◌, length}
use Rattle.chain_book.specs.Records.{next_of, partner_of, follow}
use Rattle.chain_book.specs.Order.{Run}
use Rattle.chain_book.specs.Steps.{lower, last_or, stop}
use Rattle.chain_book.proofs.chain.walk.Given as goal

-- what is left of the chain can be walked, and the walk stops in it where it stops in the whole
abbrev pub invariant-loop-next : goal.invariant-loop-next
invariant-loop-next l = record {
  within : l.at < length l.records;
  runs : Run 1 (length l.records) (next_of l.records) l.next (follow (length l.records) (next_of l.records) l.next);
  stops : last_or l.at (lower (partner_of l.records) l.w (follow (length l.records) (next_of l.records) l.next)) ≡ stop l.records l.u l.w;
}

-- how many records are left
abbrev pub decreases-loop-next : goal.decreases-loop-next
decreases-loop-next l = length (follow (length l.records) (next_of l.records) l.next)
