use Rattle.std.proofs.Common.{◌≡◌, ℕ, suc, ◌+◌, ◌<◌, List, ◌∷◌, ◌++◌, decimal, length, get_or, take, add-one, rules, sym, ap, ◌∙◌}
use Rattle.std.specs.List.{flat_map}
use Rattle.std.proofs.Output.{has_written_append, has_written_of_eq}
use Rattle.std.proofs.lemmas.List.{take_more, flat_map_more}
use Rattle.findgroup.specs.Steps.{cards_text}
use Rattle.findgroup.proofs.found.CardsDisplay.fmt.Goals as goal

-- one more of the cards behind the first
one_more : (x : ℕ) (xs : List ℕ) (i : ℕ) → i < length xs → cards_text (take (i + 1) (x ∷ xs)) ++ (32 ∷ decimal (get_or xs i 0)) ≡ cards_text (take (i + 1 + 1) (x ∷ xs))
one_more x xs i h =
    let f = flat_map_more (λ y. 32 ∷ decimal y) (decimal x) (take i xs) (get_or xs i 0) ∙ ap (λ ys. decimal x ++ flat_map (λ y. 32 ∷ decimal y) ys) (sym (take_more xs i 0 h)) in
    rw (add-one i, add-one (suc i)) (rw add-one at f)

pub loop-card-preserved : goal.loop-card-preserved
loop-card-preserved g c p =
    let e = one_more c.in-Some.first.now c.in-Some.others.now c.loop-card.card-index c.loop-card-test.true in
    has_written_of_eq _ _ _ _ _ (rw (← c.in-Some.ensures.cases.0) at e) (has_written_append _ _ _ _ _ _ (c.loop-card.invariant p) (search rules))
