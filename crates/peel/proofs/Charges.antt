-- Each link inside a set is charged to an end of lower level; and each is met from both its ends.
use Rattle.std.proofs.Common.{◌≡◌, ℕ, ◌+◌, ◌*◌, ◌<◌, ◌≤◌, Bool, true, false, leb, sym, refl, ap, ◌∙◌, subst, inl, inr, mul-le-mul_right, mul-le-mul_left, arith}
use Rattle.std.proofs.lemmas.Bool.Decides.{nat_tests}
use Rattle.books.specs.Sums.{sum_to, pair_sum, one, when}
use Rattle.books.specs.Graphs.{Graph, Lawful, weight}
use Rattle.books.proofs.Sums.{sum_le, sum_eq, sum_mul, sum_none, square, pairs_le, sum_most}
use Rattle.peel.specs.Sets.{Cards, size, partners_in, links_in}
use Rattle.peel.specs.Levels.{Rules, Table, at_least, AllRestUnder}
use Rattle.peel.specs.Lines.{below}
use Rattle.peel.specs.Theorems.{NoneDenser}
use Rattle.peel.proofs.Lines.{below_le}

-- a sum kept or dropped as a whole
pub sum_when : (b : Bool) (f : ℕ → ℕ) (n : ℕ) → sum_to (λ u. when b (f u)) n ≡ one b * sum_to f n
sum_when true f n = omega arith
sum_when false f n = omega (arith, sum_none (λ u. 0) n (λ _ _. refl))

split : (x y : Bool) (w i j : ℕ) → when x (when y w) ≤ when x (when (leb i j) w) + when y (when (leb j i) w)
split x y w i j = grind (arith, nat_tests)

-- what the pair is charged to its first end
abbrev charge : Graph → Table → Cards → ℕ → ℕ → ℕ
charge g L X v u = when (X v) (when (leb (L v) (L u)) (weight g v u))

pub weight_turn : (g : Graph) → Lawful g → (v u : ℕ) → weight g v u ≡ weight g u v
weight_turn g w v u = ap one (w.even v u)

pub charged : (g : Graph) (L : Table) (X : Cards) → Lawful g →
    links_in g X ≤ sum_to (λ v. one (X v) * partners_in g (at_least L (L v)) v) g.cards
charged g L X w = omega (arith, halves, square (charge g L X) g.cards, whole)
  where
    pair : (v u : ℕ) → when (X v) (when (X u) (weight g v u)) ≤ charge g L X v u + charge g L X u v
    pair v u = subst (λ (a : ℕ). when (X v) (when (X u) (weight g v u)) ≤ charge g L X v u + when (X u) (when (leb (L u) (L v)) a)) (weight_turn g w v u)
        (split (X v) (X u) (weight g v u) (L v) (L u))

    halves : links_in g X ≤ pair_sum (λ v u. charge g L X v u + charge g L X u v) g.cards
    halves = pairs_le _ _ g.cards (λ v u _ _. pair v u)

    whole : sum_to (λ v. sum_to (λ u. charge g L X v u) g.cards) g.cards ≡ sum_to (λ v. one (X v) * partners_in g (at_least L (L v)) v) g.cards
    whole = sum_eq _ _ g.cards (λ v _. sum_when (X v) (λ u. when (leb (L v) (L u)) (weight g v u)) g.cards)

-- where every card rests below the height, no set is denser than the line by more than the factor
pub rest_bound : (r : Rules) (L : Table) → Lawful r.graph → AllRestUnder r L → NoneDenser r.graph r.p r.q r.line.links r.line.cards
rest_bound r L w all X = omega (arith, mul-le-mul_right m (charged r.graph L X w), sum_mul f m r.graph.cards, each, sum_mul (λ v. one (X v)) c r.graph.cards)
  where
    m : ℕ
    m = r.line.cards * (r.q * r.q)

    c : ℕ
    c = 2 * ((r.q + r.p) * (r.q + r.p)) * r.line.links

    f : ℕ → ℕ
    f v = one (X v) * partners_in r.graph (at_least L (L v)) v

    under : (v : ℕ) → v < r.graph.cards → below r.p r.q r.line (partners_in r.graph (at_least L (L v)) v) ≡ true
    under v h = elim (all v h).1 [ inl e ↦ absurd (omega (arith, (all v h).0)) | inr b ↦ b.1 ]

    each : sum_to (λ v. f v * m) r.graph.cards ≤ sum_to (λ v. one (X v) * c) r.graph.cards
    each = sum_le _ _ r.graph.cards (λ v h. omega (arith, mul-le-mul_left (one (X v)) (below_le r.p r.q r.line _ (under v h))))

-- the partners in X of the cards of X, added up, are the links inside X twice
pub handshake : (g : Graph) (X : Cards) → Lawful g → sum_to (λ v. one (X v) * partners_in g X v) g.cards ≡ 2 * links_in g X
handshake g X w = omega (arith, whole, square c g.cards, halves, diagonal, double)
  where
    c : ℕ → ℕ → ℕ
    c v u = when (X v) (when (X u) (weight g v u))

    turn : (x y : Bool) (a : ℕ) → when x (when y a) ≡ when y (when x a)
    turn x y a = grind arith

    swap : (v u : ℕ) → c u v ≡ c v u
    swap v u = subst (λ (a : ℕ). when (X u) (when (X v) a) ≡ c v u) (weight_turn g w v u) (turn (X u) (X v) (weight g v u))

    none : (x : Bool) → when x (when x 0) ≡ 0
    none x = grind arith

    whole : sum_to (λ v. sum_to (λ u. c v u) g.cards) g.cards ≡ sum_to (λ v. one (X v) * partners_in g X v) g.cards
    whole = sum_eq _ _ g.cards (λ v _. sum_when (X v) (λ u. when (X u) (weight g v u)) g.cards)

    halves : pair_sum (λ v u. c v u + c u v) g.cards ≡ sum_to (λ v. sum_to (λ u. c v u) v * 2) g.cards
    halves = sum_eq _ _ g.cards (λ v _. sum_eq _ (λ u. c v u * 2) v (λ u _. omega (arith, swap v u)) ∙ sum_mul (λ u. c v u) 2 v)

    double : sum_to (λ v. sum_to (λ u. c v u) v * 2) g.cards ≡ links_in g X * 2
    double = sum_mul (λ v. sum_to (λ u. c v u) v) 2 g.cards

    diagonal : sum_to (λ v. c v v) g.cards ≡ 0
    diagonal = sum_none _ g.cards (λ v _. subst (λ (a : ℕ). when (X v) (when (X v) a) ≡ 0) (sym (ap one (w.apart v))) (none (X v)))

pub partners_most : (g : Graph) (X : Cards) (v : ℕ) → partners_in g X v ≤ g.cards
partners_most g X v = omega (arith, sum_most (λ u. when (X u) (weight g v u)) 1 g.cards (λ u _. at_most (X u) (g.linked v u)))
  where
    at_most : (x a : Bool) → when x (one a) ≤ 1
    at_most x a = grind arith

pub links_le : (g : Graph) → Lawful g → (X : Cards) → links_in g X ≤ g.cards * size g X
links_le g w X = omega (
  arith,
  handshake g X w,
  sum_mul (λ v. one (X v)) g.cards g.cards,
  sum_le (λ v. one (X v) * partners_in g X v) (λ v. one (X v) * g.cards) g.cards
      (λ v _. mul-le-mul_left (one (X v)) (partners_most g X v)),
)
