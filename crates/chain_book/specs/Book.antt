-- What a chain book is made of, and what it means.
use Rattle.std.specs.Prelude.{ℕ, ◌-◌, ◌/◌, List, take, drop}
use Rattle.books.specs.Graphs.{Graph}
use Rattle.chain_book.specs.declared.record.Record.{Record}
use Rattle.chain_book.specs.declared.book.ChainBook.{ChainBook}
use Rattle.chain_book.specs.Records.{free_records}
use Rattle.chain_book.specs.Meaning.{chain_graph}

-- the records that are the book's own: the needed ones, at the front of the memory lent
abbrev pub own : ChainBook → List Record
own b = take b.needed b.records.now

-- the records past them
abbrev pub past : ChainBook → List Record
past b = drop b.needed b.records.now

-- its cards and links
abbrev pub graph_of : ChainBook → Graph
graph_of b = chain_graph b.cards (own b)

-- its places: half of its own records after the heads
abbrev pub room_of : ChainBook → ℕ
room_of b = (b.needed - b.cards) / 2

-- its free records, in the order in which they will be used
abbrev pub free_of : ChainBook → List ℕ
free_of b = free_records (own b) b.free
