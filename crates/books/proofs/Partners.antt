-- What an answer of the next-partner question says, and walks from partner to partner.
use Rattle.std.proofs.Common.{◌≡◌, ℕ, zero, suc, ◌+◌, ◌-◌, ◌<◌, ◌≤◌, Bool, true, false, Some, None, Option, MatchOption, sym, refl, ap, ◌∙◌, inl, inr, ⊎_elim, arith}
use Rattle.std.proofs.lemmas.Bool.{cases_eq, cases_Bool, cases_order, cond-true, cond-false, both_ways}
use Rattle.books.specs.Graphs.{Graph, Lawful}
use Rattle.books.specs.Books.{first_from, next_partner, LowestPartner}

first_some : (p : ℕ → Bool) (k w x : ℕ) → first_from p k w ≡ Some x
    → (w ≤ x) × (x < w + k) × (p x ≡ true) × ((y : ℕ) → w ≤ y → y < x → p y ≡ false)
first_some p zero w x h = absurd cc
first_some p (suc k) w x h =
    ⊎_elim
    (λ (e : p w ≡ true).
    let s : Some w ≡ Some x = sym (cond-true (p w) (Some w) (first_from p k (w + 1)) e) ∙ h in
    let q : w ≡ x = cc in
    (omega arith, omega arith, rw (← q) e, λ y l m. absurd (omega arith)))
    (λ (e : p w ≡ false).
    let r = first_some p k (w + 1) x (sym (cond-false (p w) (Some w) (first_from p k (w + 1)) e) ∙ h) in (
      omega (arith, r.0),
      omega (arith, r.1),
      r.2,
      λ y l m. ⊎_elim (λ (q : y ≡ w). rw q e) (λ (q : y ≡ w → ⊥). r.3 y (omega arith) m) (cases_eq y w),
    ))
    (cases_Bool (p w))

first_all : (p : ℕ → Bool) (k w : ℕ) → first_from p k w ≡ None → (y : ℕ) → w ≤ y → y < w + k → p y ≡ false
first_all p zero w h y l m = absurd (omega arith)
first_all p (suc k) w h y l m =
    ⊎_elim
    (λ (e : p w ≡ true). let z : Some w ≡ None = sym (cond-true (p w) (Some w) (first_from p k (w + 1)) e) ∙ h in absurd cc)
    (λ (e : p w ≡ false).
    ⊎_elim (λ (q : y ≡ w). rw q e)
    (λ (q : y ≡ w → ⊥). first_all p k (w + 1) (sym (cond-false (p w) (Some w) (first_from p k (w + 1)) e) ∙ h) y (omega arith) (omega arith))
    (cases_eq y w))
    (cases_Bool (p w))

-- a partner of u that is not below w, with none between
pub record NextIs (g : Graph) (u w x : ℕ) : Type 0 where
  pub above : w ≤ x
  pub card : x < g.cards
  pub held : g.linked u x ≡ true
  pub gap : (y : ℕ) → w ≤ y → y < x → g.linked u y ≡ false

pub next_some : (g : Graph) (u w x : ℕ) → Some x ≡ next_partner g u w → NextIs g u w x
next_some g u w x h =
    let r = first_some (g.linked u) (g.cards - w) w x (sym h) in
    record { above = r.0; card = omega (arith, r.0, r.1); held = r.2; gap = r.3 }

-- no card from w on is a partner of u
pub next_none : (g : Graph) (u w : ℕ) → None ≡ next_partner g u w → (y : ℕ) → w ≤ y → y < g.cards → g.linked u y ≡ false
next_none g u w h y l m = first_all (g.linked u) (g.cards - w) w (sym h) y l (omega arith)

-- the answer in the words of the question
pub next_lowest : (g : Graph) → Lawful g → (u w : ℕ) (r : Option ℕ) → r ≡ next_partner g u w → LowestPartner g u w r
next_lowest g l u w (Some x) h = let n = next_some g u w x h in (n.above, n.held, n.gap)
next_lowest g l u w None h = λ v a. elim (cases_Bool (g.linked u v)) [
  | inr f ↦ f
  | inl y ↦ absurd (both_ways _ (next_none g u w h v a (l.inside v u (l.even v u ∙ y))) y)
]

-- what a look at the cards from w on finds first is the lowest partner
pub lowest_found : (g : Graph) → Lawful g → (u w : ℕ) (r : Option ℕ)
    → MatchOption r ((k : ℕ) → w ≤ k → k < g.cards → g.linked u k ≡ false)
    (λ x. (w ≤ x) × (x < g.cards) × (g.linked u x ≡ true) × ((k : ℕ) → w ≤ k → k < x → g.linked u k ≡ false))
    → LowestPartner g u w r
lowest_found g l u w (Some x) h = (h.0, h.2, h.3)
lowest_found g l u w None h = λ v a. elim (cases_Bool (g.linked u v)) [
  | inr f ↦ f
  | inl y ↦ absurd (both_ways _ (h v a (l.inside v u (l.even v u ∙ y))) y)
]

-- r is the lowest number from w on that passes the test, or it is none, and no such number passes
abbrev pub Lowest : (ℕ → Bool) → ℕ → Option ℕ → Type 0
Lowest p w (Some x) = (w ≤ x) × (p x ≡ true) × ((v : ℕ) → w ≤ v → v < x → p v ≡ false)
Lowest p w None = (v : ℕ) → w ≤ v → p v ≡ false

-- no two answers are both the lowest
lowest_same : (p : ℕ → Bool) (w : ℕ) (r q : Option ℕ) → Lowest p w r → Lowest p w q → r ≡ q
lowest_same p w None None h k = refl
lowest_same p w None (Some y) h k = absurd (both_ways (p y) (h y k.0) k.1)
lowest_same p w (Some x) None h k = absurd (both_ways (p x) (k x h.0) h.1)
lowest_same p w (Some x) (Some y) h k = elim (cases_order x y) [
  | inl e ↦ ap (λ z. Some z) e
  | inr o ↦ elim o [
    | inl l ↦ absurd (both_ways (p x) (k.2 x h.0 l) h.1)
    | inr l ↦ absurd (both_ways (p y) (h.2 y k.0 l) k.1)
  ]
]

-- the answer to the question in its own words is the lowest number that passes its test
pub lowest_of : (g : Graph) (u w : ℕ) (r : Option ℕ) → LowestPartner g u w r → Lowest (g.linked u) w r
lowest_of g u w (Some x) h = h
lowest_of g u w None h = h

-- so whatever is the lowest number that passes that test is the next partner
pub lowest_next : (g : Graph) → Lawful g → (u w : ℕ) (r : Option ℕ) → Lowest (g.linked u) w r → r ≡ next_partner g u w
lowest_next g l u w r h = lowest_same (g.linked u) w r (next_partner g u w) h (lowest_of g u w (next_partner g u w) (next_lowest g l u w (next_partner g u w) refl))
