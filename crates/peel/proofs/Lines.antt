-- Counts and sets against a line, and partners in larger sets.
use Rattle.std.proofs.Common.{◌≡◌, ℕ, ◌+◌, ◌*◌, ◌<◌, ◌≤◌, Bool, true, false, ◌⊎◌, ap, ap₂, inl, inr, mul-le-mul_right, lt_of_mul-lt-mul_right, mul-pos, le_of_mul-le-mul_right, arith}
use Rattle.std.proofs.lemmas.Bool.Decides.{nat_tests}
use Rattle.books.specs.Sums.{one, when}
use Rattle.books.specs.Graphs.{Graph, weight}
use Rattle.books.proofs.Sums.{sum_le, sum_eq, pairs_eq, ones_le}
use Rattle.peel.specs.declared.line.Line.{Line}
use Rattle.peel.specs.Sets.{Cards, Same, size, partners_in, links_in}
use Rattle.peel.specs.Lines.{line_of, below, reaches}

when_le : (x y : Bool) (w : ℕ) → (x ≡ true → y ≡ true) → when x w ≤ when y w
when_le x y w h = grind arith

pub partners_le : (g : Graph) (X Y : Cards) (v : ℕ) → ((u : ℕ) → u < g.cards → X u ≡ true → Y u ≡ true) → partners_in g X v ≤ partners_in g Y v
partners_le g X Y v h = sum_le _ _ g.cards (λ u l. when_le (X u) (Y u) (weight g v u) (h u l))

pub size_same : (g : Graph) (X Y : Cards) → Same g X Y → size g X ≡ size g Y
size_same g X Y e = sum_eq _ _ g.cards (λ v h. ap one (e v h))

pub partners_same : (g : Graph) (X Y : Cards) (v : ℕ) → Same g X Y → partners_in g X v ≡ partners_in g Y v
partners_same g X Y v e = sum_eq _ _ g.cards (λ u h. ap (λ (b : Bool). when b (weight g v u)) (e u h))

pub links_same : (g : Graph) (X Y : Cards) → Same g X Y → links_in g X ≡ links_in g Y
links_same g X Y e = pairs_eq _ _ g.cards (λ v u l h. ap₂ (λ (x y : Bool). when x (when y (weight g v u))) (e v h) (e u (omega arith)))

pub line_same : (g : Graph) (X Y : Cards) → Same g X Y → line_of g X ≡ line_of g Y
line_same g X Y e = λ i. record { links = links_same g X Y e i; cards = size_same g X Y e i }

pub size_le : (g : Graph) (X : Cards) → size g X ≤ g.cards
size_le g X = ones_le X g.cards

pub below_down : (p q : ℕ) (l : Line) (d e : ℕ) → d ≤ e → below p q l e ≡ true → below p q l d ≡ true
below_down p q l d e h b = grind (arith, nat_tests, mul-le-mul_right (l.cards * (q * q)) h)

-- what is below a line, with no case
pub below_le : (p q : ℕ) (l : Line) (d : ℕ) → below p q l d ≡ true →
    d * l.cards * (q * q) ≤ 2 * ((q + p) * (q + p)) * l.links
below_le p q l d b = grind (arith, nat_tests)

pub not_below : (p q : ℕ) (l : Line) (d : ℕ) → below p q l d ≡ false →
    (2 * ((q + p) * (q + p)) * l.links ≤ d * l.cards * (q * q)) × (l.links ≡ 0 → 1 ≤ d)
not_below p q l d b = grind (arith, nat_tests)

-- what falls short of a line, and what reaches it, by cases
pub short_of : (p q : ℕ) (l : Line) (e s : ℕ) → reaches p q l e s ≡ false →
    ((l.links ≡ 0) × (e ≡ 0)) ⊎ ((1 ≤ l.links) × (e * l.cards * q < (q + p) * l.links * s))
short_of p q l e s h = grind (arith, nat_tests)

pub reach_of : (p q : ℕ) (l : Line) (e s : ℕ) → reaches p q l e s ≡ true →
    ((l.links ≡ 0) × (1 ≤ e)) ⊎ ((1 ≤ l.links) × ((q + p) * l.links * s ≤ e * l.cards * q))
reach_of p q l e s h = grind (arith, nat_tests)

-- a denser set reaches what a set reaches
pub reach_up : (p q : ℕ) (l : Line) (e₁ s₁ e₂ s₂ : ℕ) → 0 < s₁ → 0 < s₂ → e₁ * s₂ ≤ e₂ * s₁ → reaches p q l e₁ s₁ ≡ true → reaches p q l e₂ s₂ ≡ true
reach_up p q l e₁ s₁ e₂ s₂ p₁ p₂ d h = elim (reach_of p q l e₁ s₁ h) [
  | inl z ↦ grind (arith, nat_tests, lt_of_mul-lt-mul_right s₁ {m = 0} {n = e₂}, mul-pos {m = e₁} {n = s₂} z.1 p₂)
  | inr y ↦ grind (arith, nat_tests, le_of_mul-le-mul_right {m = (q + p) * l.links * s₂} {n = e₂ * l.cards * q} {k = s₁} (omega (arith, mul-le-mul_right s₂ y.1, mul-le-mul_right (l.cards * q) d)) p₁)
]

-- what reaches a line is denser than the set that made it
pub reach_denser : (p q : ℕ) → 1 ≤ p → (l : Line) (e s : ℕ) → 0 < l.cards → 0 < s → reaches p q l e s ≡ true → l.links * s < e * l.cards
reach_denser p q f l e s ps p' h = elim (reach_of p q l e s h) [
  | inl z ↦ omega (arith, mul-le-mul_right {m = l.links} {n = 0} s (omega (arith, z.0)), mul-pos {m = e} {n = l.cards} z.1 ps)
  | inr y ↦ lt_of_mul-lt-mul_right q (omega (arith, y.1, mul-pos {m = p} {n = l.links * s} f (mul-pos y.0 p')))
]
