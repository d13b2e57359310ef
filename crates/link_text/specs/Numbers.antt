-- What a number is in text, byte by byte.
use Rattle.std.specs.Prelude.{ℕ, ◌+◌, ◌-◌, ◌*◌, Bool, true, cond, ◌&&◌, List, [], ◌∷◌, Ok, Err, Result, nat_le, nat_lt}
use Rattle.link_text.specs.declared.fault.Fault.{Fault}
use Rattle.link_text.specs.declared.fault.Fault.TheVariants.{Missing, NotDigits, TooLarge}

-- one of the digits 0 to 9
abbrev pub is_digit : ℕ → Bool
is_digit b = nat_le 48 b && nat_le b 57

-- every byte is a digit
abbrev pub all_digits : List ℕ → Bool
all_digits [] = true
all_digits (b ∷ bs) = is_digit b && all_digits bs

-- the decimal number that n becomes when digits are written behind it
abbrev pub value_after : ℕ → List ℕ → ℕ
value_after n [] = n
value_after n (b ∷ bs) = value_after (n * 10 + (b - 48)) bs

-- the value of digits, where it is below 65,536
abbrev pub small : ℕ → Result ℕ Fault
small n = cond (nat_lt n 65536) (Ok n) (Err TooLarge)

-- the number that a word is, or what is wrong with it; zeros in front change nothing
abbrev pub number_in : List ℕ → Result ℕ Fault
number_in [] = Err Missing
number_in (b ∷ bs) = cond (all_digits (b ∷ bs)) (small (value_after 0 (b ∷ bs))) (Err NotDigits)
