use Rattle.std.proofs.Common.{◌+◌, take}
use Rattle.std.specs.Fmt.{HasWritten, IsPlainFormatter}
use Rattle.findgroup.specs.Steps.{cards_text}
use Rattle.findgroup.proofs.found.CardsDisplay.fmt.Given as goal

abbrev pub invariant-loop-card : goal.invariant-loop-card
invariant-loop-card g l =
    IsPlainFormatter l.fn.f → HasWritten g.W.Write.write_str_gives l.fn.f (cards_text (take (l.card-index + 1) l.self.0.now)) l.f
