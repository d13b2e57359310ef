use Rattle.std.proofs.Common.{length, ap, arith}
use Rattle.std.proofs.lemmas.Bool.Decides.{nat_tests}
use Rattle.chain_book.proofs.Walks.{walked}
use Rattle.chain_book.proofs.chain.walk.Goals as goal

pub loop-next-smaller : goal.loop-next-smaller
loop-next-smaller c =
    let o = walked c.args.records.now c.loop-next.next c.loop-next-test.true c.loop-next.invariant.runs in
    omega (arith, ap length o.first)

pub loop-next-preserved : goal.loop-next-preserved
loop-next-preserved c =
    let o = walked c.args.records.now c.loop-next.next c.loop-next-test.true c.loop-next.invariant.runs in
    record { within = o.high; runs = o.runs; stops = grind (arith, nat_tests, o.first, c.loop-next.invariant.stops) }
