use Rattle.std.proofs.Common.{◌≡◌, ℕ, [], ◌∷◌, ◌∙◌, arith}
use Rattle.std.specs.Prelude.{min, max}
use Rattle.std.proofs.lemmas.Bool.Decides.{nat_tests}
use Rattle.closed_book.specs.Meaning.{lower_first}
use Rattle.closed_book.proofs.Pairs.{array}
use Rattle.closed_book.proofs.Places.{searched}
use Rattle.closed_book.proofs.book.ClosedBookReadingBook.linked.Goals as goal

sought : (u v : ℕ) → array (lower_first u v) ≡ min u v ∷ max u v ∷ []
sought u v = grind (arith, nat_tests)

pub returns : goal.returns
returns c =
    let p = lower_first c.args.u c.args.v in
    let a : array p ≡ c.min.result ∷ c.max.result ∷ [] = rw (c.min.ensures, c.max.ensures) (sought c.args.u c.args.v) in
    c.is_ok.ensures.value
    ∙ searched c.args.self.now.cards c.args.self.now.list.now p c.binary_search.result c.args.self.now.ok (rw (← c.pairs.ensures) c.binary_search.ensures.bound) (rw (← c.pairs.ensures, a) c.binary_search.ensures.position)
