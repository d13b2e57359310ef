-- What a line of numbers says.
use Rattle.std.specs.Prelude.{ℕ, zero, suc, Bool, cond, not, List, [], ◌∷◌, ◌++◌, Ok, Err, decimal, Result, ◌==◌}
use Rattle.link_text.specs.declared.fault.Fault.{Fault}
use Rattle.link_text.specs.declared.fault.Fault.TheVariants.{Missing, MoreFollows}
use Rattle.link_text.specs.declared.line.Setup.{Setup}
use Rattle.link_text.specs.Numbers.{number_in}

-- any byte but a space
abbrev pub not_space : ℕ → Bool
not_space b = not (b == 32)

-- a byte put in front of the first word
abbrev pub in_front : ℕ → List (List ℕ) → List (List ℕ)
in_front b [] = (b ∷ []) ∷ []
in_front b (w ∷ ws) = (b ∷ w) ∷ ws

-- the words of a line: what stands before, between and behind its spaces, which may be nothing
abbrev pub words : List ℕ → List (List ℕ)
words [] = [] ∷ []
words (b ∷ bs) = cond (not_space b) (in_front b (words bs)) ([] ∷ words bs)

-- one thing, and then another that is made of it; what is wrong first is the answer
abbrev pub and_then : {A B : Type 0} → Result A Fault → (A → Result B Fault) → Result B Fault
and_then (Ok a) go = go a
and_then (Err e) go = Err e

-- the number that the first word is, with the words after it
abbrev pub first_number : List (List ℕ) → Result (ℕ × List (List ℕ)) Fault
first_number [] = Err Missing
first_number (w ∷ ws) = and_then (number_in w) (λ n. Ok (n, ws))

-- what is made of the first number and of the words after it
abbrev pub with_number : {A : Type 0} → List (List ℕ) → (ℕ → List (List ℕ) → Result A Fault) → Result A Fault
with_number ws go = and_then (first_number ws) (λ x. go x.0 x.1)

-- the answer, where no word is left
abbrev pub at_end : {A : Type 0} → List (List ℕ) → A → Result A Fault
at_end [] a = Ok a
at_end (w ∷ ws) a = Err MoreFollows

-- so many numbers, and nothing else
abbrev pub numbers_in : ℕ → List (List ℕ) → Result (List ℕ) Fault
numbers_in zero ws = at_end ws []
numbers_in (suc n) ws = with_number ws (λ u rest. and_then (numbers_in n rest) (λ us. Ok (u ∷ us)))

-- a link: two numbers, and nothing else
abbrev pub link_in : List ℕ → Result (ℕ × ℕ) Fault
link_in line =
    with_number (words line) (λ u rest. with_number rest (λ v rest. at_end rest (u, v)))

-- a setup: three numbers, and nothing else
abbrev pub setup_in : List ℕ → Result Setup Fault
setup_in line =
    with_number (words line) (λ n rest. with_number rest (λ p rest. with_number rest (λ q rest.
    at_end rest (record { cards = n; p = p; q = q }))))

-- what is written of a link
abbrev pub link_text : ℕ → ℕ → List ℕ
link_text u v = decimal u ++ (32 ∷ decimal v)

-- what is written of a setup
abbrev pub setup_text : Setup → List ℕ
setup_text s = decimal s.cards ++ (32 ∷ (decimal s.p ++ (32 ∷ decimal s.q)))
