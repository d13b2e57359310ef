use Rattle.std.proofs.Common.{◌≡◌, ℕ, ◌<◌, leb, length}
use Rattle.search.specs.Rows.{rows, marked}
use Rattle.search.proofs.searching.marks_at.Given as goal

-- the marks below v are set
abbrev pub invariant-loop-v : goal.invariant-loop-v
invariant-loop-v l =
    (length l.marks ≡ 1024)
    × ((u : ℕ) → u < l.v → marked l.marks u ≡ leb l.level (rows l.levels u))
