use Rattle.std.proofs.Common.{◌≡◌, refl, arith}
use Rattle.search.specs.Rows.{rules_of}
use Rattle.search.proofs.Peelings.{Bettered, peeling_start, better, peeling_next, peeled_all, peeled_empty, peeled_still}
use Rattle.search.proofs.peeling.peel_book.Goals as goal

pub loop-t-init : goal.loop-t-init
loop-t-init g c =
    let h = g.B.ReadingBook.graph c.args.book.now in
    let b = g.met.B.ReadingBook.sound c.args.book.now in
    peeling_start b.least b.most refl c.cards.ensures.is c.links.ensures

pub returns-then-tally-eq0 : goal.returns-then-tally-eq0
returns-then-tally-eq0 g c =
    let b : Bettered _ _ c.or_denser-best.result = better c.loop-t.invariant refl c.round-tally.ensures.line c.or_denser-best.ensures in
    let p = peeled_empty c.loop-t-test.true c.round-tally.ensures.after c.round-tally.ensures.stayed c.if-tally-eq0.true b in
    record { levels = p.levels; best = p.best; line = p.counted }

pub returns-then-tally : goal.returns-then-tally
returns-then-tally g c =
    let b : Bettered _ _ c.or_denser-best.result = better c.loop-t.invariant refl c.round-tally.ensures.line c.or_denser-best.ensures in
    let p = peeled_still _ _ c.loop-t-test.true (g.met.B.ReadingBook.sound c.args.book.now).most c.round-tally.ensures.after
    c.round-tally.ensures.stayed c.round-tally.ensures.line c.if-tally.true c.lift.ensures b in
    record { levels = p.levels; best = p.best; line = p.counted }

pub loop-t-preserved : goal.loop-t-preserved
loop-t-preserved g c =
    peeling_next c.round-tally.array_long c.round-tally.ensures.after c.round-tally.ensures.stayed c.if-tally-eq0.false
    (better c.loop-t.invariant refl c.round-tally.ensures.line c.or_denser-best.ensures)

pub returns-after-loop-t : goal.returns-after-loop-t
returns-after-loop-t g c =
    let e : c.loop-t.t ≡ c.args.setting.height = omega arith in
    let p = peeled_all {r = rules_of (g.B.ReadingBook.graph c.args.book.now) c.args.setting} c.requires.least e c.loop-t.invariant in
    record { levels = p.levels; best = p.best; line = p.counted }
