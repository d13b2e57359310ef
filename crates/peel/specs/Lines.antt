-- The line: what a count of partners, or a set, is held against.
use Rattle.std.specs.Prelude.{ℕ, ◌+◌, ◌*◌, Bool, cond, ◌==◌, nat_le, nat_lt}
use Rattle.books.specs.Graphs.{Graph}
use Rattle.peel.specs.declared.line.Line.{Line}
use Rattle.peel.specs.Sets.{Cards, size, links_in}

-- the line that a set makes: its links and its cards
abbrev pub line_of : Graph → Cards → Line
line_of g X = record { links = links_in g X; cards = size g X }

-- d partners are below the line: d·s·q² < 2(q+p)²·e; where e is 0, only none are
abbrev pub below : ℕ → ℕ → Line → ℕ → Bool
below p q l d = cond (l.links == 0) (d == 0) (nat_lt (d * l.cards * (q * q)) (2 * ((q + p) * (q + p)) * l.links))

-- a set of so many links and cards reaches the line: links·s·q ≥ (q+p)·e·cards; where e is 0, if it has a link
abbrev pub reaches : ℕ → ℕ → Line → ℕ → ℕ → Bool
reaches p q l links cards = cond (l.links == 0) (nat_lt 0 links) (nat_le ((q + p) * l.links * cards) (links * l.cards * q))
