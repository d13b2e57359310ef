use Rattle.std.proofs.Common.{◌≡◌, ℕ, suc, ◌+◌, ◌≤◌, sym, subst, add-zero, arith}
use Rattle.peel.specs.Tolerances.{Height, stands, falls}
use Rattle.peel.proofs.Heights.{next_is, next_less, height_one}
use Rattle.peel.proofs.tolerance.Tolerance.height.Goals as goal

pub loop-left-preserved : goal.loop-left-preserved
loop-left-preserved c =
    let nx = next_is c.from-p.result c.from-q.result c.loop-left.left (omega (arith, c.args.self.least)) (omega (arith, c.args.self.order)) c.loop-left-test.true in (
      λ k h.
          let e : c.loop-left.turns + suc k ≡ c.loop-left.turns + 1 + k = omega arith in
          subst (λ (j : ℕ). Height c.from-p.result c.from-q.result c.args.cards j) e
          (c.loop-left.invariant.0 (suc k) (falls c.loop-left-test.true nx h)),
      omega (arith, c.loop-left.invariant.1, next_less c.from-p.result c.from-q.result c.loop-left.left _ nx),
    )

-- where nothing is left, the turns are the height
done : (p q cards turns left : ℕ) → left ≤ 0 → ((k : ℕ) → Height p q left k → Height p q cards (turns + k)) → Height p q cards turns
done p q cards turns left z f =
    let e : 0 ≡ left = omega arith in
    subst (λ (j : ℕ). Height p q cards j) (add-zero turns) (f 0 (subst (λ (x : ℕ). Height p q x 0) e stands))

pub returns : goal.returns
returns c =
    let wide : Height c.from-p.result c.from-q.result c.args.cards c.loop-left.turns =
    done c.from-p.result c.from-q.result c.args.cards c.loop-left.turns c.loop-left.left (omega (arith, c.loop-left-test.false)) c.loop-left.invariant.0 in
    let is : Height c.args.self.p c.args.self.q c.args.cards c.loop-left.turns = rw (sym c.from-p.ensures, sym c.from-q.ensures) wide in
    record { is = is; only = λ k h. height_one h is; most = omega (arith, c.loop-left.invariant.1) }
