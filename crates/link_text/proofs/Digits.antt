-- Digit by digit: what is left of a word tells of the whole.
use Rattle.std.proofs.Common.{◌≡◌, ℕ, ◌+◌, ◌-◌, ◌*◌, ◌<◌, ◌≤◌, List, Some, None, cond, ltb, [], ◌∷◌, length, get_or, drop, refl, arith}
use Rattle.std.proofs.lemmas.List.{at_drop_more}
use Rattle.std.proofs.lemmas.Bool.{cond_above}
use Rattle.link_text.specs.Numbers.{value_after}

value_grows : (n : ℕ) (xs : List ℕ) → n ≤ value_after n xs
value_grows n [] = omega arith
value_grows n (b ∷ bs) = omega (arith, value_grows (n * 10 + (b - 48)) bs)

-- where the value is too large with the digit at i, it is too large
pub value_large : (n all : ℕ) (xs : List ℕ) (i : ℕ) → i < length xs → value_after n (drop i xs) ≡ all → 65536 ≤ n * 10 + (get_or xs i 0 - 48) → None ≡ cond (ltb all 65536) (Some all) None
value_large n all xs i h e l =
    let v = n * 10 + (get_or xs i 0 - 48) in
    let m : value_after n (drop i xs) ≡ value_after v (drop (i + 1) xs) = at_drop_more (value_after n) xs i 0 h in
    let g : v ≤ value_after v (drop (i + 1) xs) = value_grows v (drop (i + 1) xs) in
    cond_above all 65536 (Some all) None None (omega (arith, e, m)) refl
