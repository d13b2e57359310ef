use Rattle.std.proofs.Common.{◌≡◌, map, take}
use Rattle.std.specs.List.{range_with_len}
use Rattle.chain_book.specs.Layout.{new_next}
use Rattle.chain_book.proofs.layout.Layout.lay_out.Given as goal

abbrev pub invariant-loop-i : goal.invariant-loop-i
invariant-loop-i l = take l.i l.record-items ≡ map (λ k. record { partner = 0; next = new_next l.self.cards l.self.needed k }) (range_with_len 0 l.i)
