use Rattle.std.proofs.Common.{◌≡◌, ℕ, ◌+◌, ◌<◌, ◌≤◌, set, sym, ap, ◌∙◌, subst, arith, rules}
use Rattle.peel.specs.Levels.{at_least}
use Rattle.search.specs.Rows.{rows, rules_of}
use Rattle.search.proofs.Rounds.{mid_start, mid_at, mid_pass, mid_drop, mid_stay, mid_cards, mid_ends, mid_levels, mid_line, mid_stayed}
use Rattle.search.proofs.round.round.Goals as goal
use Rattle.search.proofs.round.round.Goals.{then-levels-row+then-not-below, then-levels-row+else-not-below, else-levels-row}

pub loop-u-init : goal.loop-u-init
loop-u-init g c = mid_start c.told-levels c.requires.before

pub overflow_add-cards : goal.overflow_add-cards
overflow_add-cards g c = omega (arith, mid_cards c.loop-u.invariant)

pub overflow_add-ends : goal.overflow_add-ends
overflow_add-ends g c = omega (arith, mid_ends c.loop-u.invariant (omega arith) (g.met.B.ReadingBook.sound c.args.book.now).most)

pub overflow_add-stayed : goal.overflow_add-stayed
overflow_add-stayed g c = omega (arith, mid_cards c.loop-u.invariant)

pub loop-u-preserved : goal.loop-u-preserved
loop-u-preserved g c =
    let h = g.B.ReadingBook.graph c.args.book.now in
    let b = g.met.B.ReadingBook.sound c.args.book.now in
    let l : c.loop-u.u < h.cards = omega (arith, c.cards-n.ensures.is) in
    let e : c.from-row.result ≡ c.loop-u.u = c.from-row.ensures in
    elim c.if-levels-row.branch [
      | then-levels-row+then-not-below w ↦
          mid_at (w.levels-is ∙ ap (λ (x : ℕ). set c.loop-u.levels x (c.args.t + 1)) e) w.cards-is w.ends-is w.stayed-is
          (mid_stay c.loop-u.invariant l (omega (arith, b.most)) (subst (λ (x : ℕ). c.args.t ≤ rows c.loop-u.levels x) e w.if-levels-row.true) (w.from-partners.ensures ∙ w.partners_in.ensures (at_least (rows c.loop-u.levels) c.args.t) (λ v h a p. search rules)) (sym w.if-not-below.ensures))
      | then-levels-row+else-not-below w ↦
          mid_at w.levels-is w.cards-is w.ends-is w.stayed-is
          (mid_drop c.loop-u.invariant l (subst (λ (x : ℕ). c.args.t ≤ rows c.loop-u.levels x) e w.if-levels-row.true) (w.from-partners.ensures ∙ w.partners_in.ensures (at_least (rows c.loop-u.levels) c.args.t) (λ v h a p. search rules)) (sym w.if-not-below.ensures))
      | else-levels-row w ↦
          mid_at w.levels-is w.cards-is w.ends-is w.stayed-is
          (mid_pass c.loop-u.invariant l (subst (λ (x : ℕ). rows c.loop-u.levels x < c.args.t) e w.if-levels-row.false))
    ]

pub returns : goal.returns
returns g c =
    let h = g.B.ReadingBook.graph c.args.book.now in
    let b = g.met.B.ReadingBook.sound c.args.book.now in
    let all : c.loop-u.u ≡ h.cards = omega (arith, c.cards-n.ensures.is) in
    let r = rules_of h c.args.setting in
    record {
      after = mid_levels {r = r} c.loop-u.invariant (omega arith);
      line = mid_line {r = r} c.loop-u.invariant b.lawful all;
      stayed = mid_stayed {r = r} c.loop-u.invariant all;
    }
