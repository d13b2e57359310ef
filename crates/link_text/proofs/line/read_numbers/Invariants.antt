use Rattle.std.proofs.Common.{◌≡◌, ◌-◌, length}
use Rattle.link_text.specs.Lines.{words, numbers_in}
use Rattle.link_text.proofs.Words.{left, behind}
use Rattle.link_text.proofs.line.read_numbers.Given as goal

abbrev pub invariant-loop-number : goal.invariant-loop-number
invariant-loop-number g l =
    record {
      read : numbers_in g.row.N (words l.line) ≡ behind g.row.N l.number-index l.number-items (left l.words.done l.words.rest.now);
      length : length l.number-items ≡ g.row.N;
    }

abbrev pub decreases-loop-number : goal.decreases-loop-number
decreases-loop-number g l = g.row.N - l.number-index
