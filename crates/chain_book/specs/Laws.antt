-- Records that are in order mean a book.
use Rattle.books.specs.Books.{IsBook}
use Rattle.chain_book.specs.declared.book.ChainBook.{ChainBook}
use Rattle.chain_book.specs.Book.{graph_of}

-- the cards and links of a chain book are a book's
pub chain_sound : (b : ChainBook) → IsBook (graph_of b)
chain_sound b = record { lawful = b.sound.lawful; least = b.sound.least; most = b.sound.most }
