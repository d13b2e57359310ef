use Rattle.std.proofs.Common.{◌≡◌, ℕ, ◌<◌, ◌≤◌, cond, ltb, length}
use Rattle.search.specs.Rows.{rows}
use Rattle.search.proofs.peeling.lift.Given as goal

-- the rows below the index are lifted, and the others are as they were
abbrev pub invariant-loop-l : goal.invariant-loop-l
invariant-loop-l l =
    (length l.levels ≡ 1024)
    × ((u : ℕ) → u < l.l-index → rows l.levels u ≡ cond (ltb l.level (rows l.initial.levels u)) l.height (rows l.initial.levels u))
    × ((u : ℕ) → l.l-index ≤ u → rows l.levels u ≡ rows l.initial.levels u)
