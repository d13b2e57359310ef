-- What the code answers, as the outcome of a search.
use Rattle.peel.specs.Searches.{Outcome}
use Rattle.search.specs.declared.searched.Searched.{Searched}
use Rattle.search.specs.Rows.{rows, marked}

-- the outcome that stands in the rows
abbrev pub outcome : Searched → Outcome
outcome s = record { kept = marked s.kept; line = s.line; levels = rows s.levels; peels = s.peels }
