-- What the program does with what it read.
use Rattle.std.specs.Prelude.{◌≡◌, ℕ, List, [], ◌∷◌, ◌++◌, codes, decimal, Some, None, Ok, Err, Option, Result}
use Rattle.std.specs.List.{join_by}
use Rattle.books.specs.declared.refusal.Refusal.{Refusal}
use Rattle.books.specs.Graphs.{Graph, with_link}
use Rattle.books.specs.Refusals.{refusal_number, refusal_words, put_refusal, unless_refused}
use Rattle.bit_book.specs.Meaning.{check_refusal}
use Rattle.peel.specs.Tolerances.{tolerance_refusal}
use Rattle.link_text.specs.declared.fault.Fault.{Fault}
use Rattle.link_text.specs.declared.line.Setup.{Setup}
use Rattle.link_text.specs.Lines.{link_in}
use Rattle.link_text.specs.Words.{fault_words}
use Rattle.findgroup.specs.declared.trouble.Trouble.{Trouble}
use Rattle.findgroup.specs.declared.trouble.Trouble.TheVariants.{BadSetup, BadLink, Refused, Input, Output}

-- the trouble is that the first line of the input cannot be read
abbrev pub IsFirstUnread : Trouble → Type 0
IsFirstUnread (Input line error) = line ≡ 1
IsFirstUnread _ = ⊥

-- the trouble is that something could not be written
abbrev pub IsUnwritten : Trouble → Type 0
IsUnwritten (Output error) = Unit {0}
IsUnwritten _ = ⊥

-- the setup of the first line, or the trouble that it ends the program with
abbrev pub setup_read : Result Setup Fault → Result Setup Trouble
setup_read (Ok s) = Ok s
setup_read (Err f) = Err (BadSetup f)

-- the first refusal, or where there is none the second
abbrev pub or_else : Option Refusal → Option Refusal → Option Refusal
or_else (Some e) other = Some e
or_else None other = other

-- why a setup does not stand, if it does not: first the number of cards, then the tolerance
abbrev pub setup_refusal : Setup → ℕ → Option Refusal
setup_refusal s bytes = or_else (check_refusal s.cards bytes) (tolerance_refusal s.p s.q)

-- the cards and links after a link was tried
abbrev pub tried : Graph → ℕ → Result (ℕ × ℕ) Fault → Graph
tried g places (Ok x) = unless_refused (put_refusal g places x.0 x.1) g (with_link g x.0 x.1)
tried g places (Err e) = g

-- the cards and links after a line: the link on it is put in unless it is refused; a line that is no link changes nothing
abbrev pub after_line : Graph → ℕ → List ℕ → Graph
after_line g places line = tried g places (link_in line)

-- how the program goes on after the line of that number: what is no link ends it with that fault, and a link that was put in
-- does not end it. A refused link does not either, unless it cannot be told of
abbrev pub Goes : ℕ → Graph → ℕ → Result (ℕ × ℕ) Fault → Result (Unit {0}) Trouble → Type 0
Goes number g places (Err f) r = r ≡ Err (BadLink number f)
Goes number g places (Ok x) r = put_refusal g places x.0 x.1 ≡ None → r ≡ Ok tt

-- what is told of a trouble; where the machine has it, nothing is stated, since its error brings words of its own
abbrev pub trouble_text : Trouble → Option (List ℕ)
trouble_text (BadSetup fault) = Some (codes "line 1: expected `n p q`, the number of cards and the tolerance, with one space between two numbers: " ++ fault_words fault)
trouble_text (BadLink line fault) = Some (codes "line " ++ (decimal line ++ (codes ": expected `u v`, two cards, with one space between the numbers: " ++ fault_words fault)))
trouble_text (Refused refusal) = Some (codes "line 1: refused " ++ (decimal (refusal_number refusal) ++ (codes ": " ++ refusal_words refusal)))
trouble_text (Input line error) = None
trouble_text (Output error) = None

-- cards in decimal, with one space between two
abbrev pub cards_text : List ℕ → List ℕ
cards_text cards = join_by decimal (32 ∷ []) cards
