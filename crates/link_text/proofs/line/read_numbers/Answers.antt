use Rattle.std.proofs.Common.{replicate, arith, rules}
use borrow.Author.Tests.{tests}
use Rattle.std.proofs.lemmas.Grind.{common_steps}
use Rattle.std.proofs.lemmas.Fn.{always_returns_same}
use Rattle.std.proofs.lemmas.Result.{err_from_is_err_and}
use Rattle.link_text.proofs.Words.{left, taken, behind_none, behind_wrong, behind_more, behind_follows}
use Rattle.link_text.proofs.line.read_numbers.Goals as goal

pub loop-number-init : goal.loop-number-init
loop-number-init g c = record {
  read = behind_none g.row.N (replicate g.row.N 0) _ _ _ c.split-words.ensures.rest c.split-words.ensures.done;
  length = grind (arith, common_steps);
}

pub returns-in_err-number : goal.returns-in_err-number
returns-in_err-number g c =
    let t = taken _ _ _ _ _ _ _ _ c.next.ensures.steps (always_returns_same _ _ _ (λ a r q k. search (rules, tests))) in
    let p = err_from_is_err_and c.from_residual.result c.from_residual.ensures.1 in
    rw (p.1, p.2) (behind_wrong {after = left c.next.new.self.done c.next.new.self.rest.now} g.row.N c.loop-number.number-index _ _ _ c.loop-number-test.true t c.in_err-number.ensures c.loop-number.invariant.read)

pub loop-number-preserved : goal.loop-number-preserved
loop-number-preserved g c =
    let t = taken _ _ _ _ _ _ _ _ c.next.ensures.steps (always_returns_same _ _ _ (λ a r q k. search (rules, tests))) in
    record { read = behind_more g.row.N c.loop-number.number-index _ _ _ c.loop-number-test.true c.loop-number.invariant.length t c.in_ok-number.ensures c.loop-number.invariant.read; length = grind (arith, common_steps) }

pub returns-then-is_some : goal.returns-then-is_some
returns-then-is_some g c =
    let t = taken _ _ _ _ _ _ _ _ c.next-2.ensures.steps (always_returns_same _ _ _ (λ a r q k. search (rules, tests))) in
    behind_follows g.row.N c.loop-number.number-index _ _ c.loop-number-test.false c.loop-number.invariant.length t c.if-is_some.ensures c.loop-number.invariant.read
