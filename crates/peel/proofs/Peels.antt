-- Peels: how fast they shrink, and their levels.
use Rattle.std.proofs.Common.{◌≡◌, ℕ, zero, suc, ◌+◌, ◌-◌, ◌*◌, ◌<◌, ◌≤◌, Bool, true, false, cond, not, ◌&&◌, ltb, ◌⊎◌, sym, ap, ◌∙◌, subst, inl, inr, zero-le, add-zero, mul-le-mul_right, le_of_eq, lt_of_mul-lt-mul_right, mul-lt-mul_of_pos_right, mul-pos, zero-add, arith}
use Rattle.std.proofs.lemmas.Bool.{cases_eq, cases_Bool, and_parts, and_from, not_from_false, not-true, both_ways, lt-ltb, le-leb, leb-true, cond-true, cond-false, cases_lt, le-ltb}
use Rattle.std.proofs.lemmas.Bool.Decides.{nat_tests}
use Rattle.books.specs.Sums.{sum_to, one}
use Rattle.books.specs.Graphs.{Lawful}
use Rattle.books.proofs.Sums.{sum_le, sum_lt, sum_mul, sum_none, sum_at}
use Rattle.peel.specs.Tolerances.{Next, Height, stands, falls}
use Rattle.peel.specs.Sets.{Cards, Same, size, partners_in, links_in}
use Rattle.peel.specs.Lines.{below}
use Rattle.peel.specs.Levels.{Rules, Table, at_least, Rests, RestsAbove, LowestAbove, zeros, AllRestUnder}
use Rattle.peel.specs.Peels.{peel, peel_cards, LevelsUpTo, PeelLevels}
use Rattle.peel.specs.Searches.{reaches_at}
use Rattle.peel.proofs.Charges.{handshake}
use Rattle.peel.proofs.Lines.{partners_le, partners_same, below_down, not_below, short_of, size_le}

-- a card that stays has the count c
stay : (x b : Bool) (c m : ℕ) → (b ≡ false → c ≤ m) → one (x && not b) * c ≤ one x * m
stay x b c m h = grind arith

pub peel_shrinks : (r : Rules) (t : ℕ) → peel_cards r (suc t) ≤ peel_cards r t
peel_shrinks r t = sum_le _ _ r.graph.cards (λ v _. omega (arith, stay (peel r t v) (below r.p r.q r.line (partners_in r.graph (peel r t) v)) 1 1 (λ _. omega arith)))

shrinks_fast : (r : Rules) → Lawful r.graph → 1 ≤ r.q → (t : ℕ) → 0 < peel_cards r t → reaches_at r t ≡ false →
    peel_cards r (suc t) * (r.q + r.p) < peel_cards r t * r.q
shrinks_fast r w qs t pos short = elim (short_of r.p r.q r.line (links_in r.graph X) (size r.graph X) short) [
  | inl z ↦ omega (
    arith,
    mul-le-mul_right {m = peel_cards r (suc t)} {n = 0} (r.q + r.p) (omega (
      arith,
      z.1,
      weigh 1 1 (λ v b. omega (arith, (not_below r.p r.q r.line (partners_in r.graph X v) b).1 z.0)),
    )),
    mul-pos {m = size r.graph X} {n = r.q} pos qs,
  )
  | inr y ↦ lt_of_mul-lt-mul_right (2 * (r.q + r.p) * r.line.links)
      (omega (
        arith,
        weigh c m (λ v b. omega (arith, (not_below r.p r.q r.line (partners_in r.graph X v) b).0)),
        mul-lt-mul_of_pos_right {k = 2 * r.q} y.1 (omega (arith, qs)),
      ))
]
  where
    X : Cards
    X = peel r t

    m : ℕ
    m = r.line.cards * (r.q * r.q)

    c : ℕ
    c = 2 * ((r.q + r.p) * (r.q + r.p)) * r.line.links

    -- what each card that stays weighs at least
    weigh : (a b : ℕ) → ((v : ℕ) → below r.p r.q r.line (partners_in r.graph X v) ≡ false → a ≤ partners_in r.graph X v * b) →
        peel_cards r (suc t) * a ≤ 2 * links_in r.graph X * b
    weigh a b h = omega (
      arith,
      sum_mul (λ v. one (peel r (suc t) v)) a r.graph.cards,
      each,
      sum_mul (λ v. one (X v) * partners_in r.graph X v) b r.graph.cards,
      mul-le-mul_right b (le_of_eq (handshake r.graph X w)),
    )
      where
        each : sum_to (λ v. one (peel r (suc t) v) * a) r.graph.cards ≤ sum_to (λ v. one (X v) * partners_in r.graph X v * b) r.graph.cards
        each = sum_le _ _ r.graph.cards (λ v _. omega (arith, stay (X v) (below r.p r.q r.line (partners_in r.graph X v)) a (partners_in r.graph X v * b) (h v)))

-- the set t is empty or falls short of the line
abbrev pub Quiet : Rules → ℕ → Type 0
Quiet r t = (peel_cards r t ≡ 0) ⊎ (reaches_at r t ≡ false)

-- the next set is no larger than the next number of the height
fits_next : (r : Rules) → Lawful r.graph → 1 ≤ r.q → (t c d : ℕ) → peel_cards r t ≤ c → Next r.p r.q c d → Quiet r t →
    peel_cards r (suc t) ≤ d
fits_next r w qs t c d h nx qu = elim (cases_eq (peel_cards r t) 0) [
  | inl z ↦ omega (arith, peel_shrinks r t)
  | inr y ↦ elim qu [
    | inl z ↦ absurd (y z)
    | inr short ↦ nx.1 _ (omega (arith, shrinks_fast r w qs t (omega arith) short, mul-le-mul_right r.q h))
  ]
]

empties_from : (r : Rules) → Lawful r.graph → 1 ≤ r.q → {c k : ℕ} → Height r.p r.q c k → (t : ℕ) → peel_cards r t ≤ c →
    ((j : ℕ) → j < t + k → Quiet r j) → peel_cards r (t + k) ≡ 0
empties_from r w qs stands t h qu = subst (λ (j : ℕ). peel_cards r j ≡ 0) (sym (add-zero t)) (omega arith)
empties_from r w qs (falls {c = c} {d = d} {k = k} pos nx ht) t h qu =
    let e : suc t + k ≡ t + suc k = omega arith in
    subst (λ (j : ℕ). peel_cards r j ≡ 0) e
    (empties_from r w qs ht (suc t) (fits_next r w qs t c d h nx (qu t (omega arith))) (λ j l. qu j (omega arith)))

-- where every set up to the height falls short, the last one is empty
pub empties : (r : Rules) → Lawful r.graph → 1 ≤ r.q → Height r.p r.q r.graph.cards r.height
    → ((t : ℕ) → t < r.height → Quiet r t) → peel_cards r r.height ≡ 0
empties r w qs ht short = subst (λ (j : ℕ). peel_cards r j ≡ 0) (zero-add r.height)
    (empties_from r w qs ht 0 (size_le r.graph (peel r 0)) (λ j l. short j (omega arith)))

-- levels
pub peel_mono : (r : Rules) (v i j : ℕ) → i ≤ j → peel r j v ≡ true → peel r i v ≡ true
peel_mono r v i zero h p = grind arith
peel_mono r v i (suc j) h p = elim (cases_eq i (suc j)) [
  | inl e ↦ subst (λ (m : ℕ). peel r m v ≡ true) (sym e) p
  | inr n ↦ peel_mono r v i j (omega arith) (and_parts _ _ p).0
]

-- m is the last of the sets up to k that has the card v
abbrev Last : Rules → ℕ → ℕ → ℕ → Type 0
Last r k v m = (m ≤ k) × (peel r m v ≡ true) × ((i : ℕ) → i ≤ k → peel r i v ≡ true → i ≤ m)

-- and this is it
abbrev pub level_to : Rules → ℕ → ℕ → ℕ
level_to r zero v = 0
level_to r (suc k) v = cond (peel r (suc k) v) (suc k) (level_to r k v)

pub level_is : (r : Rules) (k : ℕ) → LevelsUpTo r k (level_to r k)
level_is r zero v h = (omega arith, lt-ltb _ _ h, λ i l _. l)
level_is r (suc k) v h =
    let ih : Last r k v (level_to r k v) = level_is r k v h in
    elim (cases_Bool (peel r (suc k) v)) [
      | inl y ↦ subst (Last r (suc k) v) (sym (cond-true _ _ _ y)) (omega arith, y, λ i l _. l)
      | inr f ↦ subst (Last r (suc k) v) (sym (cond-false _ _ _ f))
          (omega (arith, ih.0), ih.1, λ i l p. elim (cases_eq i (suc k)) [ inl z ↦ absurd (both_ways _ f (subst (λ (m : ℕ). peel r m v ≡ true) z p)) | inr n ↦ ih.2 i (omega arith) p ])
    ]

-- there is one such table
pub levels_only : (r : Rules) (k : ℕ) (L M : Table) → LevelsUpTo r k L → LevelsUpTo r k M → (v : ℕ) → v < r.graph.cards → L v ≡ M v
levels_only r k L M a b v h = grind arith

pub levels_same : (r : Rules) (k : ℕ) (L M : Table) → ((v : ℕ) → v < r.graph.cards → L v ≡ M v) → LevelsUpTo r k M → LevelsUpTo r k L
levels_same r k L M e lv v h = grind (arith, e v h, lv v h)

-- the cards at level i or higher are the set i
pub level_set : (r : Rules) (k : ℕ) (L : Table) → LevelsUpTo r k L → (i : ℕ) → i ≤ k → Same r.graph (at_least L i) (peel r i)
level_set r k L lv i l v h = grind (arith, nat_tests, lv v h, peel_mono r v i (L v))

-- a card of the set i has no lower level in a table in which every card rests
under_rest : (r : Rules) (N : Table) → RestsAbove r zeros N → (i v : ℕ) → v < r.graph.cards → i ≤ r.height → peel r i v ≡ true → i ≤ N v
under_rest r N st zero v h l p = zero-le
under_rest r N st (suc i) v h l p = elim (cases_lt i (N v)) [
  | inl y ↦ y
  | inr le ↦ absurd (elim (st v h).1 [
    | inl e ↦ omega arith
    | inr b ↦ both_ways _ (not-true _ (and_parts (peel r i v) (not (below r.p r.q r.line (partners_in r.graph (peel r i) v))) p).1)
        (below_down r.p r.q r.line _ _ (partners_le r.graph (peel r i) (at_least N (N v)) v
        (λ u hu pu. le-leb _ _ (omega (arith, under_rest r N st i u hu (omega arith) pu)))) b.1)
  ])
]

levels_rest : (r : Rules) (L : Table) → PeelLevels r L → (v : ℕ) → v < r.graph.cards → Rests r L v
levels_rest r L pl v h = elim (cases_eq (L v) r.height) [
  | inl e ↦ inl e
  | inr n ↦ inr (
    omega (arith, (pl v h).0),
    elim (cases_Bool (below r.p r.q r.line (partners_in r.graph (peel r (L v)) v))) [
      | inl b ↦ below_down r.p r.q r.line _ _ (partners_le r.graph (at_least L (L v)) (peel r (L v)) v
          (λ u hu pu. peel_mono r u (L v) (L u) (leb-true _ _ pu) (pl u hu).1)) b
      | inr f ↦ absurd (omega (arith, (pl v h).2 (suc (L v)) (omega (arith, (pl v h).0)) (and_from _ _ (pl v h).1 (not_from_false _ f))))
    ],
  )
]

-- the levels of a peel are the lowest table above all zeros
pub peel_lowest : (r : Rules) (L : Table) → PeelLevels r L → LowestAbove r zeros L
peel_lowest r L pl = (λ v h. (zero-le, levels_rest r L pl v h), λ N st v h. under_rest r N st (L v) v h (pl v h).0 (pl v h).1)

-- a peel whose set has no card left
pub none_left : (r : Rules) (t : ℕ) → peel_cards r t ≡ 0 → (v : ℕ) → v < r.graph.cards → peel r t v ≡ false
none_left r t z v h = grind (arith, sum_at (λ u. one (peel r t u)) r.graph.cards v h)

-- where the last set of a peel is empty no card is at the height
pub levels_under : (r : Rules) (L : Table) → peel_cards r r.height ≡ 0 → PeelLevels r L → AllRestUnder r L
levels_under r L none lv v h = (grind (arith, lv v h, none_left r r.height none v h), levels_rest r L lv v h)

pub none_later : (r : Rules) (t j : ℕ) → peel_cards r t ≡ 0 → t ≤ j → peel_cards r j ≡ 0
none_later r t j z l = sum_none _ r.graph.cards (λ v h. grind (arith, none_left r t z v h, peel_mono r v t j l))

-- then the levels so far are the levels of all further sets too
pub levels_empty : (r : Rules) (m k : ℕ) (L : Table) → m ≤ k → peel_cards r m ≡ 0 → LevelsUpTo r m L → LevelsUpTo r k L
levels_empty r m k L l z lv v h = grind (arith, lv v h, none_left r m z v h, peel_mono r v m)

-- a round in which every card stays
pub all_stay : (r : Rules) (t : ℕ) → peel_cards r (suc t) ≡ peel_cards r t → Same r.graph (peel r (suc t)) (peel r t)
all_stay r t e v h = grind (arith, sum_lt (λ u. one (peel r (suc t) u)) (λ u. one (peel r t u)) r.graph.cards v h (λ u _. grind arith))

-- then every further set is the same
pub stays_on : (r : Rules) (t d : ℕ) → peel_cards r (suc t) ≡ peel_cards r t → Same r.graph (peel r (d + t)) (peel r t)
stays_on r t zero e v h = ap (λ (j : ℕ). peel r j v) (zero-add t)
stays_on r t (suc d) e v h =
    let j : suc d + t ≡ suc (d + t) = omega arith in
    ap (λ (i : ℕ). peel r i v) j
    ∙ (λ i. stays_on r t d e v h i && not (below r.p r.q r.line (partners_same r.graph _ _ v (stays_on r t d e) i)))
    ∙ all_stay r t e v h

pub stays_to : (r : Rules) (t j : ℕ) → t ≤ j → peel_cards r (suc t) ≡ peel_cards r t → Same r.graph (peel r j) (peel r t)
stays_to r t j l e v h = grind (arith, stays_on r t (j - t) e v h)

-- and the cards that stay go up to the last set at once
pub levels_lifted : (r : Rules) (t k : ℕ) (L M : Table) → t < k → peel_cards r (suc t) ≡ peel_cards r t → LevelsUpTo r (suc t) L
    → ((v : ℕ) → v < r.graph.cards → M v ≡ cond (ltb t (L v)) k (L v)) → LevelsUpTo r k M
levels_lifted r t k L M l e lv is = levels_same r k M (λ v. cond (ltb t (L v)) k (L v)) is lifted
  where
    lifted : LevelsUpTo r k (λ v. cond (ltb t (L v)) k (L v))
    lifted v h = elim (cases_lt t (L v)) [
      | inl a ↦ subst (Last r k v) (sym (cond-true _ _ _ (lt-ltb _ _ a)))
          (omega arith, stays_to r t k (omega arith) e v h ∙ peel_mono r v t (L v) (omega arith) (lv v h).1, λ i b _. b)
      | inr a ↦ subst (Last r k v) (sym (cond-false _ _ _ (le-ltb _ _ a))) (
        omega arith,
        (lv v h).1,
        λ i b y. elim (cases_lt t i) [
          | inr c ↦ (lv v h).2 i (omega arith) y
          | inl c ↦ absurd (omega (arith, (lv v h).2 (suc t) (omega arith) (all_stay r t e v h ∙ sym (stays_to r t i (omega arith) e v h) ∙ y)))
        ],
      )
    ]
