-- What the search by itself answers, and what it leaves in the caller's list.
use Rattle.std.specs.Prelude.{◌≡◌, ℕ, cond, List, ◌++◌, length, drop, IfOk, Some, None, Option, Result, nat_lt}
use Rattle.std.specs.Result.{result_err}
use Rattle.books.specs.declared.refusal.Refusal.{Refusal}
use Rattle.books.specs.declared.refusal.Refusal.TheVariants.{ListTooShort}
use Rattle.books.specs.Graphs.{Graph}
use Rattle.books.specs.Refusals.{unless_refused}
use Rattle.peel.specs.Tolerances.{Height}
use Rattle.peel.specs.Sets.{size, links_in, listed}
use Rattle.peel.specs.Searches.{Outcome, Finds, Alike}
use Rattle.peel.specs.Theorems.{Sound}
use Rattle.search.specs.declared.found.Group.{Group}

-- why a list of so many places cannot take a group of so many cards, if it cannot
abbrev pub group_refusal : ℕ → ℕ → Option Refusal
group_refusal cards places = cond (nat_lt places cards) (Some ListTooShort) None

-- the answer r of the search by itself, on a list that was and now is
pub record Answered (g : Graph) (p q : ℕ) (was : List ℕ) (r : Result Group Refusal) (is : List ℕ) : Type 0 where
  -- the search from all cards has this outcome, and no other
  pub outcome : Outcome
  pub found : Finds g p q outcome
  pub only : (o : Outcome) → Finds g p q o → Alike g outcome o
  -- its levels are the lowest table above all zeros, every card rests below the height, and no set is much denser
  pub sound : (k : ℕ) → Height p q g.cards k → Sound g p q k outcome
  -- a list with fewer places than the kept set has cards is refused, and no other
  pub refused : result_err r ≡ group_refusal (size g outcome.kept) (length was)
  -- else the counts are those of the kept set and of the search
  pub counts : IfOk r (λ f. (f.cards ≡ size g outcome.kept) × (f.links ≡ links_in g outcome.kept) × (f.peels ≡ outcome.peels))
  -- and the kept cards stand at the start of the list in ascending order, with the later places as they were
  pub list : is ≡ unless_refused (result_err r) was (listed outcome.kept g.cards ++ drop (size g outcome.kept) was)
