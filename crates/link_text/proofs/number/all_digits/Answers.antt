use Rattle.std.proofs.Common.{◌&&◌, rules, refl, ◌∙◌}
use borrow.Author.Tests.{tests}
use Rattle.std.proofs.lemmas.Iterator.{YieldsList-from_slice}
use Rattle.std.proofs.lemmas.Iterator.Search.{all_from_yields_List}
use Rattle.std.proofs.lemmas.List.Recursion.{same_from_clauses}
use Rattle.std.specs.List.{list_all}
use Rattle.link_text.specs.Numbers.{is_digit, all_digits}
use Rattle.link_text.proofs.number.all_digits.Goals as goal

pub returns : goal.returns
returns c =
    all_from_yields_List is_digit _ _ _ c.all.ensures.ran (YieldsList-from_slice c.args.word.now c.iter.ensures.rest) (λ x b q k. search (rules, tests))
    ∙ same_from_clauses (list_all is_digit) all_digits (λ b t. is_digit b && t) refl (λ _ _. refl) (λ _ _. refl) c.args.word.now
