-- How many records a chain book takes, and how they are laid out when it is new.
use Rattle.std.specs.Prelude.{ℕ, ◌+◌, ◌-◌, ◌*◌, ◌/◌, Bool, cond, ◌&&◌, ◌||◌, List, map, Some, None, Option, ◌==◌, nat_le, nat_lt}
use Rattle.std.specs.List.{range_with_len}
use Rattle.books.specs.declared.refusal.Refusal.{Refusal}
use Rattle.books.specs.declared.refusal.Refusal.TheVariants.{Unsuitable}
use Rattle.books.specs.Books.{cards_suit}
use Rattle.chain_book.specs.declared.record.Record.{Record}
use Rattle.chain_book.specs.Records.{end_mark}

-- the most links that so many records can hold, n of them heads: half of the others
abbrev pub places_in : ℕ → ℕ → ℕ
places_in n records = (records - n) / 2

-- how many of so many records are needed: n heads, and two for each place
abbrev pub records_needed : ℕ → ℕ → ℕ
records_needed n records = n + 2 * places_in n records

-- n cards suit a book, and there are n to 61,024 records
abbrev pub suits : ℕ → ℕ → Bool
suits n records = cards_suit n && (nat_le n records && nat_le records 61024)

-- why n cards cannot have a book on so many records, if they cannot
abbrev pub check_refusal : ℕ → ℕ → Option Refusal
check_refusal n records = cond (suits n records) None (Some Unsuitable)

-- how many cards a new book has: as many as asked, or one where they do not suit
abbrev pub cards_made : ℕ → ℕ → ℕ
cards_made n records = cond (suits n records) n 1

-- how many records it stands on: the needed ones, or none
abbrev pub records_made : ℕ → ℕ → ℕ
records_made n records = cond (suits n records) (records_needed n records) 0

-- how many places it has
abbrev pub places_made : ℕ → ℕ → ℕ
places_made n records = cond (suits n records) (places_in n records) 0

-- what comes after the record i in a new book of n cards on m records: after a head and after the last record nothing, else the next one
abbrev pub new_next : ℕ → ℕ → ℕ → ℕ
new_next n m i = cond (nat_lt i n || i + 1 == m) end_mark (i + 1)

-- the m records of a new book of n cards
abbrev pub laid : ℕ → ℕ → List Record
laid n m = map (λ i. record { partner = 0; next = new_next n m i }) (range_with_len 0 m)

-- the first free record of a new book: the one after the heads, if there is one
abbrev pub first_free : ℕ → ℕ → ℕ
first_free n m = cond (nat_lt n m) n end_mark
