-- The records that a chain book stands on, and the chains that they spell.
use Rattle.std.specs.Prelude.{ℕ, zero, suc, cond, List, [], ◌∷◌, length, ◌==◌, slice_index_or}
use Rattle.chain_book.specs.declared.record.Record.{Record}

-- the mark at the end of a chain
abbrev pub end_mark : ℕ
end_mark = 0

-- what reading past the last record gives
abbrev pub blank : Record
blank = record { partner = 0; next = end_mark }

-- the number of the record that comes after the record i
abbrev pub next_of : List Record → ℕ → ℕ
next_of rs i = (slice_index_or rs i blank).next

-- the partner that the record i holds
abbrev pub partner_of : List Record → ℕ → ℕ
partner_of rs i = (slice_index_or rs i blank).partner

-- the records that are met from the record i on, up to the end mark, and at most k of them
abbrev pub follow : ℕ → (ℕ → ℕ) → ℕ → List ℕ
follow zero next i = []
follow (suc k) next i = cond (i == end_mark) [] (i ∷ follow k next (next i))

-- the chain of the card u: the records that hang on its head, which is the record u
abbrev pub chain : List Record → ℕ → List ℕ
chain rs u = follow (length rs) (next_of rs) (next_of rs u)

-- the free records, from the first of them on
abbrev pub free_records : List Record → ℕ → List ℕ
free_records rs first = follow (length rs) (next_of rs) first
