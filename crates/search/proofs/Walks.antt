-- Walks from partner to partner, which count those that are in a set.
use Rattle.std.proofs.Common.{◌≡◌, ℕ, ◌+◌, ◌≤◌, Bool, false, Some, None, sym, arith}
use Rattle.books.specs.Sums.{sum_to, one, when}
use Rattle.books.specs.Graphs.{Graph, weight}
use Rattle.books.specs.Books.{next_partner}
use Rattle.books.proofs.Sums.{sum_more, sum_skip}
use Rattle.books.proofs.Partners.{NextIs, next_some, next_none}
use Rattle.peel.specs.Sets.{Cards, partners_in}

-- what the card u counts for v: 1 where it is a partner of v and in X
abbrev pub counts : Graph → Cards → ℕ → ℕ → ℕ
counts g X v u = when (X u) (weight g v u)

unlinked : (g : Graph) (X : Cards) (v u : ℕ) → g.linked v u ≡ false → counts g X v u ≡ 0
unlinked g X v u e = grind arith

-- one step of the walk: the partner x counts where it is in X
pub walk_on : (g : Graph) (X : Cards) (v from x : ℕ) (b : Bool) → Some x ≡ next_partner g v from → b ≡ X x
    → sum_to (counts g X v) (x + 1) ≡ sum_to (counts g X v) from + one b
walk_on g X v from x b h e =
    let n : NextIs g v from x = next_some g v from x h in
    grind (arith, n.held, sum_more (counts g X v) x, sum_skip (counts g X v) from x n.above (λ y a b. unlinked g X v y (n.gap y a b)))

pub walk_done : (g : Graph) (X : Cards) (v from : ℕ) → None ≡ next_partner g v from → from ≤ g.cards
    → sum_to (counts g X v) from ≡ partners_in g X v
walk_done g X v from h l = sym (sum_skip (counts g X v) from g.cards l (λ y a b. unlinked g X v y (next_none g v from h y a b)))
