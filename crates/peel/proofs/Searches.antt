-- Searches: what they leave, that there is one outcome, and what grows from step to step.
use Rattle.std.proofs.Common.{◌≡◌, ℕ, suc, ◌*◌, ◌/◌, ◌<◌, ◌≤◌, true, false, sym, refl, ap, ◌∙◌, subst, inl, inr, le_of_eq, le_refl, lt_of_lt_of_le, mul-le-mul_right, mul-le-mul, mul-le-mul_left, le-div_iff_mul-le, div-mul-le_self, le_of_mul-le-mul_right, arith}
use native.Mathlib.Nat.{div-le_of_le-mul, zero-div}
use Rattle.std.proofs.lemmas.Bool.{cases_eq, both_ways}
use Rattle.books.specs.Graphs.{Graph, Lawful}
use Rattle.peel.specs.Tolerances.{Height}
use Rattle.peel.specs.Sets.{Cards, Same, size, links_in}
use Rattle.peel.specs.Lines.{line_of, reaches}
use Rattle.peel.specs.Levels.{Rules, rules, AllRestUnder}
use Rattle.peel.specs.Peels.{peel, peel_cards, peel_links, PeelLevels, Best}
use Rattle.peel.specs.Searches.{Outcome, rules_from, reaches_at, Search, ends, again, Alike}
use Rattle.peel.specs.Theorems.{Sound}
use Rattle.peel.proofs.Lines.{line_same, size_same, size_le, reach_of, reach_up, reach_denser}
use Rattle.peel.proofs.Charges.{rest_bound, links_le}
use Rattle.peel.proofs.Peels.{Quiet, empties, levels_only, peel_lowest, levels_under}
use Rattle.peel.proofs.Bests.{densest_only}

-- a best set that falls short shows that every set does
all_short : (r : Rules) (i : ℕ) → Best r i → reaches_at r i ≡ false → (t : ℕ) → t < r.height → Quiet r t
all_short r i b sh t h = grind (arith, b.highest t h, b.some, reach_up r.p r.q r.line (peel_links r t) (peel_cards r t) (peel_links r i) (peel_cards r i))

pub search_sound : {g : Graph} {p q k : ℕ} → Lawful g → 1 ≤ q → Height p q g.cards k
    → {K : Cards} {o : Outcome} → Search g p q k K o → Sound g p q k o
search_sound {g} {p} {q} {k} w qs ht (ends {K = K} {L = L} t b sh lv) =
    let r : Rules = rules_from g p q k K in
    let under : AllRestUnder r L = levels_under r L (empties r w qs ht (all_short r t b sh)) lv in
    record { line = refl; lowest = peel_lowest r L lv; rest = under; bound = rest_bound r L w under }
search_sound {g} {p} {q} {k} w qs ht (again {o = o} t b re same s) =
    let i : Sound g p q k o = search_sound w qs ht s in
    record { line = i.line; lowest = i.lowest; rest = i.rest; bound = i.bound }

-- a search from a set that is not empty keeps one that is not empty
pub search_some : {g : Graph} {p q k : ℕ} {K : Cards} {o : Outcome} → Search g p q k K o → 0 < size g K → 0 < size g o.kept
search_some (ends t b sh lv) h = h
search_some {g} (again {K = K} {B = B} t b re same s) h = search_some s (lt_of_lt_of_le b.some (le_of_eq (sym (size_same g _ _ same))))

-- two sets with the same cards make the same rules, and have the same best set
rules_same : (g : Graph) (p q k : ℕ) (K K' : Cards) → Same g K K' → rules_from g p q k K ≡ rules_from g p q k K'
rules_same g p q k K K' same = λ i. rules g p q (line_same g K K' same i) k

best_same : (r r' : Rules) → r ≡ r' → (t t' : ℕ) → Best r t → Best r' t' → t ≡ t'
best_same r r' e t t' b b' = densest_only (peel_links r) (peel_cards r) r.height t t' b (subst (λ (x : Rules). Best x t') (sym e) b')

-- so both reach their line, or neither does
reach_same : (r r' : Rules) → r ≡ r' → (t t' : ℕ) → Best r t → Best r' t' → reaches_at r t ≡ reaches_at r' t'
reach_same r r' e t t' b b' = λ i. reaches_at (e i) (best_same r r' e t t' b b' i)

set_same : (r r' : Rules) → r ≡ r' → (t t' : ℕ) → Best r t → Best r' t' → (v : ℕ) → peel r t v ≡ peel r' t' v
set_same r r' e t t' b b' v = λ i. peel (e i) (best_same r r' e t t' b b' i) v

pub search_only : {g : Graph} {p q k : ℕ} {K K' : Cards} {o o' : Outcome} → Same g K K' → Search g p q k K o → Search g p q k K' o' → Alike g o o'
search_only {g} {p} {q} {k} {K} {K'} same (ends {L = L} t b sh lv) (ends {L = M} t' b' sh' lv') =
    record {
      kept = same;
      line = line_same g K K' same;
      peels = refl;
      levels = levels_only (rules_from g p q k K) k L M lv (subst (λ (r : Rules). PeelLevels r M) (sym (rules_same g p q k K K' same)) lv');
    }
search_only {g} {p} {q} {k} {K} {K'} same (ends t b sh lv) (again t' b' re' same' s') =
    absurd (both_ways _ (sym (reach_same _ _ (rules_same g p q k K K' same) t t' b b') ∙ sh) re')
search_only {g} {p} {q} {k} {K} {K'} same (again t b re same₁ s) (ends t' b' sh' lv') =
    absurd (both_ways _ (reach_same _ _ (rules_same g p q k K K' same) t t' b b' ∙ sh') re)
search_only {g} {p} {q} {k} {K} {K'} same (again {B = B} {o = o} t b re same₁ s) (again {B = B'} {o = o'} t' b' re' same' s') =
    let a : Alike g o o' = search_only (λ v h. same₁ v h ∙ set_same _ _ (rules_same g p q k K K' same) t t' b b' v ∙ sym (same' v h)) s s' in
    record { kept = a.kept; line = a.line; levels = a.levels; peels = ap suc a.peels }

-- a search from a set goes the same from another with the same cards
pub search_move : {g : Graph} {p q k : ℕ} {K K' : Cards} {o : Outcome} → Same g K K' → Search g p q k K o
    → (o' : Outcome) × Search g p q k K' o' × Alike g o o'
search_move {g} {p} {q} {k} {K} {K'} same (ends {L = L} t b sh lv) =
    let e : rules_from g p q k K ≡ rules_from g p q k K' = rules_same g p q k K K' same in (
      record { kept = K'; line = line_of g K'; levels = L; peels = 1 },
      ends t (subst (λ (r : Rules). Best r t) e b) (subst (λ (r : Rules). reaches_at r t ≡ false) e sh) (subst (λ (r : Rules). PeelLevels r L) e lv),
      record { kept = same; line = line_same g K K' same; levels = λ v h. refl; peels = refl },
    )
search_move {g} {p} {q} {k} {K} {K'} same (again {B = B} {o = o} t b re same₁ s) =
    let e : rules_from g p q k K ≡ rules_from g p q k K' = rules_same g p q k K K' same in (
      record { kept = o.kept; line = o.line; levels = o.levels; peels = suc o.peels },
      again t (subst (λ (r : Rules). Best r t) e b) (subst (λ (r : Rules). reaches_at r t ≡ true) e re)
          (subst (λ (r : Rules). Same g B (peel r t)) e same₁) s,
      record { kept = λ v h. refl; line = refl; levels = λ v h. refl; peels = refl },
    )

-- how dense a set is, as a whole number that grows with each step of a search
pub rank : Graph → Cards → ℕ
rank g K = g.cards * g.cards * links_in g K / size g K

pub rank_le : (g : Graph) → Lawful g → (X : Cards) → rank g X ≤ g.cards * g.cards * g.cards
unfolding rank
rank_le g w X = div-le_of_le-mul (size g X) (omega (arith, mul-le-mul_left (g.cards * g.cards) (links_le g w X)))

grows : (n e s e' s' a : ℕ) → 0 < s → s ≤ n → s' ≤ n → e * s' < e' * s → a * s ≤ n * n * e → suc a * s' ≤ n * n * e'
grows n e s e' s' a ps ls ls' d h = le_of_mul-le-mul_right {k = s} (omega (arith, mul-le-mul_right s' h, mul-le-mul_left (n * n) d, mul-le-mul ls ls')) ps

rank_denser : (g : Graph) (K B : Cards) → 0 < size g K → 0 < size g B → links_in g K * size g B < links_in g B * size g K → rank g K < rank g B
unfolding rank
rank_denser g K B pk pb d = (le-div_iff_mul-le pb).1 (grows g.cards (links_in g K) (size g K) (links_in g B) (size g B) (rank g K) pk (size_le g K) (size_le g B) d
    (div-mul-le_self (g.cards * g.cards * links_in g K) (size g K)))

-- an empty set has no links, and a set with a link outranks it
rank_empty : (g : Graph) → Lawful g → (K B : Cards) → size g K ≡ 0 → 0 < size g B → 0 < links_in g B → rank g K < rank g B
unfolding rank
rank_empty g w K B z pb pl =
    let none : g.cards * g.cards * links_in g K ≡ 0 = grind (arith, z, links_le g w K) in
    let low : rank g K ≡ 0 = ap (λ (x : ℕ). x / size g K) none ∙ zero-div (size g K) in
    let n : 1 ≤ g.cards = omega (arith, size_le g B) in
    let high : 1 ≤ rank g B =
    (le-div_iff_mul-le pb).1 (omega (
      arith,
      size_le g B,
      mul-le-mul {n₁ = 1} {m₁ = g.cards} {n₂ = g.cards} {m₂ = g.cards} n (le_refl _),
      mul-le-mul_left {m = 1} {n = links_in g B} (g.cards * g.cards) pl,
    )) in
    omega (arith, low, high)

-- a best set that reaches the line of K outranks K
pub rank_grows : (g : Graph) (p q : ℕ) → Lawful g → 1 ≤ p → (K B : Cards) → 0 < size g B
    → reaches p q (line_of g K) (links_in g B) (size g B) ≡ true → rank g K < rank g B
rank_grows g p q w ps K B pb re = elim (cases_eq (size g K) 0) [
  | inr n ↦ rank_denser g K B (omega arith) pb (reach_denser p q ps (line_of g K) _ _ (omega arith) pb re)
  | inl z ↦ rank_empty g w K B z pb (elim (reach_of p q (line_of g K) (links_in g B) (size g B) re) [
    | inl y ↦ y.1
    | inr y ↦ absurd (omega (arith, y.0, links_le g w K, mul-le-mul_left {m = size g K} {n = 0} g.cards (omega (arith, z))))
  ])
]

pub rank_same : (g : Graph) (X Y : Cards) → Same g X Y → rank g X ≡ rank g Y
unfolding rank
rank_same g X Y same = λ i. g.cards * g.cards * (line_same g X Y same i).links / (line_same g X Y same i).cards
