use Rattle.std.proofs.Common.{arith}
use Rattle.std.proofs.lemmas.List.{take_more_set}
use Rattle.std.proofs.lemmas.List.FromFn.{map-range_with_len_more}
use Rattle.chain_book.specs.declared.record.Record.{Record}
use Rattle.chain_book.specs.Layout.{new_next}
use Rattle.chain_book.proofs.layout.Layout.lay_out.Goals as goal

pub loop-i-preserved : goal.loop-i-preserved
loop-i-preserved c =
    let now = take_more_set {X = Record} c.loop-i.record-items c.loop-i.i (record { partner = 0; next = c.next.result }) (omega arith) in
    let want = map-range_with_len_more {X = Record} (λ k. record { partner = 0; next = new_next c.args.self.cards c.args.self.needed k }) 0 c.loop-i.i c.loop-i.i (omega arith) in
    cc c.next.ensures
