-- What is written of numbers in decimal reads as these numbers.
use Rattle.std.proofs.Common.{◌≡◌, ℕ, ◌<◌, true, cond, List, [], ◌∷◌, ◌++◌, length, Ok, decimal, Result, refl, ap, ◌∙◌, arith, rules}
use Rattle.std.proofs.lemmas.Bool.{and_parts, lt-ltb}
use Rattle.std.proofs.lemmas.Str.Parse.{IsNumeralModel, numerals_by_fold}
use Rattle.std.proofs.lemmas.Fmt.{digits_decimal, digits_value-decimal, decimal_nonempty}
use Rattle.link_text.specs.declared.fault.Fault.{Fault}
use Rattle.link_text.specs.declared.line.Setup.{Setup}
use Rattle.link_text.specs.Numbers.{is_digit, all_digits, value_after, number_in}
use Rattle.link_text.specs.Lines.{not_space, in_front, words, and_then, with_number, link_in, setup_in, link_text, setup_text}
use Rattle.std.proofs.Common.{leb, ◌≤◌, not}
use Rattle.std.proofs.lemmas.Bool.{leb-true, ne_eqb}

-- the definitions say what the library says of digits
own : IsNumeralModel (λ ds. all_digits ds ≡ true) (value_after 0)
own = numerals_by_fold _ (search rules) value_after (search rules)

number_of : (ds : List ℕ) → 0 < length ds → all_digits ds ≡ true → value_after 0 ds < 65536 → number_in ds ≡ Ok (value_after 0 ds)
number_of [] some d h = absurd (omega arith)
number_of (b ∷ bs) some d h = let t = lt-ltb (value_after 0 (b ∷ bs)) 65536 h in rw (d, t)

number_back : (n : ℕ) → n < 65536 → number_in (decimal n) ≡ Ok n
number_back n h =
    let k : n < 18446744073709551616 = omega arith in
    let v = digits_value-decimal own n k in
    number_of (decimal n) (decimal_nonempty n k) (digits_decimal own n k) (omega (arith, v)) ∙ ap (λ m. Ok m) v

digit_no_space : (b : ℕ) → is_digit b ≡ true → not_space b ≡ true
digit_no_space b h = let l : 48 ≤ b = leb-true 48 b (and_parts (leb 48 b) (leb b 57) h).0 in ap not (ne_eqb b 32 (λ e. omega (arith, e)))

-- digits up to the end of the line, or to a space, are one word
words_last : (ds : List ℕ) → all_digits ds ≡ true → words ds ≡ ds ∷ []
words_last [] d = refl
words_last (b ∷ bs) d =
    let p = and_parts (is_digit b) (all_digits bs) d in
    ap (λ t. cond t (in_front b (words bs)) ([] ∷ words bs)) (digit_no_space b p.0) ∙ ap (in_front b) (words_last bs p.1)

words_more : (ds rest : List ℕ) → all_digits ds ≡ true → words (ds ++ (32 ∷ rest)) ≡ ds ∷ words rest
words_more [] rest d = refl
words_more (b ∷ bs) rest d =
    let p = and_parts (is_digit b) (all_digits bs) d in
    ap (λ t. cond t (in_front b (words (bs ++ (32 ∷ rest)))) ([] ∷ words (bs ++ (32 ∷ rest)))) (digit_no_space b p.0) ∙ ap (in_front b) (words_more bs rest p.1)

digits_back : (n : ℕ) → n < 65536 → all_digits (decimal n) ≡ true
digits_back n h = digits_decimal own n (omega arith)

-- a number at the end of the line, or before a space, reads as that number
word_back : {A : Type 0} (n : ℕ) (ws : List (List ℕ)) (go : ℕ → List (List ℕ) → Result A Fault) → n < 65536 → with_number (decimal n ∷ ws) go ≡ go n ws
word_back n ws go h =
    ap (λ (r : Result ℕ Fault). and_then {A = ℕ × List (List ℕ)} (and_then r (λ m. Ok (m, ws))) (λ x. go x.0 x.1)) (number_back n h)

last_back : {A : Type 0} (n : ℕ) (go : ℕ → List (List ℕ) → Result A Fault) → n < 65536 → with_number (words (decimal n)) go ≡ go n []
last_back n go h = ap (λ ws. with_number ws go) (words_last (decimal n) (digits_back n h)) ∙ word_back n [] go h

more_back : {A : Type 0} (n : ℕ) (rest : List ℕ) (go : ℕ → List (List ℕ) → Result A Fault) → n < 65536 → with_number (words (decimal n ++ (32 ∷ rest))) go ≡ go n (words rest)
more_back n rest go h = ap (λ ws. with_number ws go) (words_more (decimal n) rest (digits_back n h)) ∙ word_back n (words rest) go h

pub link_written : (line : List ℕ) (r : Result (ℕ × ℕ) Fault) → r ≡ link_in line → (u v : ℕ) → u < 65536 → v < 65536 → line ≡ link_text u v → r ≡ Ok (u, v)
link_written line r i u v h k e = i ∙ (ap link_in e ∙ (more_back u (decimal v) _ h ∙ last_back v _ k))

pub setup_written : (line : List ℕ) (r : Result Setup Fault) → r ≡ setup_in line → (s : Setup) → s.cards < 65536 → s.p < 65536 → s.q < 65536 → line ≡ setup_text s → r ≡ Ok s
setup_written line r i s h k l e = i ∙ (ap setup_in e ∙ (more_back s.cards (decimal s.p ++ (32 ∷ decimal s.q)) _ h ∙ (more_back s.p (decimal s.q) _ k ∙ last_back s.q _ l)))
