use Rattle.std.proofs.Common.{ℕ, ◌+◌, ◌≤◌}
use Rattle.peel.specs.Tolerances.{Height}
use Rattle.peel.proofs.tolerance.Tolerance.height.Given as goal

-- the turns so far, and those that what is left still takes, are the height
abbrev pub invariant-loop-left : goal.invariant-loop-left
invariant-loop-left l =
    ((k : ℕ) → Height l.p l.q l.left k → Height l.p l.q l.cards (l.turns + k))
    × (l.turns + l.left ≤ l.cards)

abbrev pub decreases-loop-left : goal.decreases-loop-left
decreases-loop-left l = l.left
