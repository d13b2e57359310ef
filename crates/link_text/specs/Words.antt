-- What is told of a fault.
use Rattle.std.specs.Prelude.{ℕ, List, codes}
use Rattle.link_text.specs.declared.fault.Fault.{Fault}
use Rattle.link_text.specs.declared.fault.Fault.TheVariants.{Missing, NotDigits, TooLarge, MoreFollows}

-- a fault in words
abbrev pub fault_words : Fault → List ℕ
fault_words Missing = codes "a number is missing"
fault_words NotDigits = codes "a number is not made of digits alone"
fault_words TooLarge = codes "a number is above 65535"
fault_words MoreFollows = codes "something follows the last number"
