-- The refusals: their numbers and words, and which of them a change of a link meets first.
use Rattle.std.specs.Prelude.{ℕ, cond, ◌||◌, List, codes, Some, None, Option, ◌==◌, nat_le}
use Rattle.books.specs.declared.refusal.Refusal.{Refusal}
use Rattle.books.specs.declared.refusal.Refusal.TheVariants.{NoSuchCard, SameCard, BadTolerance, Unsuitable, BadList, LinkHeld, LinkMissing, Full, ListTooShort}
use Rattle.books.specs.Graphs.{Graph, link_count}

-- the number of each refusal
abbrev pub refusal_number : Refusal → ℕ
refusal_number NoSuchCard = 1
refusal_number SameCard = 2
refusal_number BadTolerance = 6
refusal_number Unsuitable = 7
refusal_number BadList = 8
refusal_number LinkHeld = 11
refusal_number LinkMissing = 12
refusal_number Full = 13
refusal_number ListTooShort = 14

-- each refusal in words
abbrev pub refusal_words : Refusal → List ℕ
refusal_words NoSuchCard = codes "a card number is not below the number of cards"
refusal_words SameCard = codes "both ends are one card"
refusal_words BadTolerance = codes "a tolerance p/q needs 1 <= p <= q <= 100"
refusal_words Unsuitable = codes "the number of cards is not from 1 to 1024, or the memory is too short"
refusal_words BadList = codes "a list of links is not in order, or names a card that is not there"
refusal_words LinkHeld = codes "the link is held already"
refusal_words LinkMissing = codes "the link is not held"
refusal_words Full = codes "every place is taken"
refusal_words ListTooShort = codes "the list has fewer places than the group has cards"

-- why a link of u and v cannot be put in, if it cannot, in a book that has so many places
abbrev pub put_refusal : Graph → ℕ → ℕ → ℕ → Option Refusal
put_refusal g places u v =
    cond (nat_le g.cards u || nat_le g.cards v) (Some NoSuchCard)
    (cond (u == v) (Some SameCard)
    (cond (g.linked u v) (Some LinkHeld)
    (cond (link_count g == places) (Some Full) None)))

-- why a link of u and v cannot be taken out, if it cannot
abbrev pub take_refusal : Graph → ℕ → ℕ → Option Refusal
take_refusal g u v =
    cond (nat_le g.cards u || nat_le g.cards v) (Some NoSuchCard)
    (cond (u == v) (Some SameCard)
    (cond (g.linked u v) None (Some LinkMissing)))

-- what a call leaves: where it refused what was there, else what it makes
abbrev pub unless_refused : {A : Type 0} → Option Refusal → A → A → A
unless_refused None was made = made
unless_refused (Some e) was made = was
