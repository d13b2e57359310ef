use Rattle.std.proofs.Common.{ap, ◌∙◌, arith}
use Rattle.bit_book.specs.Layout.{cleared}
use Rattle.bit_book.proofs.Places.{cleared_linked}
use Rattle.bit_book.proofs.Writes.{made_kept}
use Rattle.bit_book.proofs.book.BitBook.new.Goals as goal

pub invariant_of-result : goal.invariant_of-result
invariant_of-result c =
    let k = made_kept c.cards_for-cards.result c.args.memory.now c.clear.new.memory
    (omega (arith, c.cards_for-cards.ensures.fits))
    (c.clear.ensures ∙ ap (λ b. cleared b c.args.memory.now) c.bytes_for.ensures) in
    record { least = c.cards_for-cards.ensures.least; most = c.cards_for-cards.ensures.most; fits = k.0; tally = k.1; padding = k.2 }

pub returns-clause-none : goal.returns-clause-none
returns-clause-none c = λ u v.
    rw (c.clear.ensures ∙ ap (λ b. cleared b c.args.memory.now) c.bytes_for.ensures)
    (cleared_linked c.cards_for-cards.result c.args.memory.now u v)
