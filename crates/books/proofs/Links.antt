-- What one link more, or one link less, makes of a graph.
use Rattle.std.proofs.Common.{◌≡◌, ℕ, ◌+◌, ◌<◌, ◌≤◌, Bool, true, false, cond, ◌&&◌, ◌||◌, eqb, leb, ◌⊎◌, Some, None, Option, sym, refl, ap, ◌∙◌, inl, inr, ⊎_elim, arith}
use Rattle.std.proofs.Math.Bool.{or_comm, and_comm}
use Rattle.std.proofs.lemmas.Bool.{cases_eq, cases_lt, cases_Bool, eq-eqb, ne_eqb, or_right, or_from, or_cases, and_left, and_right, and_parts, eqb-true, cond-true, cond-false, or_parts, leb-false, eqb-false}
use Rattle.books.specs.declared.refusal.Refusal.{Refusal}
use Rattle.books.specs.declared.refusal.Refusal.TheVariants.{NoSuchCard, SameCard, LinkHeld, LinkMissing, Full}
use Rattle.books.specs.Sums.{pair_sum, one}
use Rattle.books.specs.Graphs.{Graph, Lawful, weight, link_count, same_pair, with_link, without_link}
use Rattle.books.specs.Refusals.{refusal_number, put_refusal, take_refusal}
use Rattle.books.proofs.Sums.{pairs_point, pairs_most, one_le, tri}

pub graph_same : (g h : Graph) → g.cards ≡ h.cards → ((u v : ℕ) → g.linked u v ≡ h.linked u v) → g ≡ h
graph_same g h e a = λ i. record { cards = e i; linked = λ u v. a u v i }

pub or_none : (x y : Bool) → y ≡ false → (x || y) ≡ x
or_none true y e = refl
or_none false y e = e

pub same_straight : (a b : ℕ) → same_pair a b a b ≡ true
same_straight a b = rw (eq-eqb a a refl, eq-eqb b b refl)

pub same_crossed : (a b : ℕ) → same_pair a b b a ≡ true
same_crossed a b = or_right (eqb b a && eqb a b) (eqb b b && eqb a a) (rw (eq-eqb a a refl, eq-eqb b b refl))

-- not both x is a and y is b
pub and_none : (x y a b : ℕ) → ((x ≡ a) × (y ≡ b) → ⊥) → (eqb x a && eqb y b) ≡ false
and_none x y a b h =
    ⊎_elim
    (λ (e : x ≡ a). and_right (eqb x a) (eqb y b) (ne_eqb y b (λ f. h (e, f))))
    (λ (e : x ≡ a → ⊥). and_left (eqb x a) (eqb y b) (ne_eqb x a e))
    (cases_eq x a)

pub same_other : (a b x y : ℕ) → ((x ≡ a) × (y ≡ b) → ⊥) → ((x ≡ b) × (y ≡ a) → ⊥) → same_pair a b x y ≡ false
same_other a b x y h k = or_from (eqb x a && eqb y b) (eqb x b && eqb y a) (and_none x y a b h) (and_none x y b a k)

-- the order of the first two, and of the last two, does not matter
pub same_swap : (u v x y : ℕ) → same_pair u v x y ≡ same_pair v u x y
same_swap u v x y = or_comm (eqb x u && eqb y v) (eqb x v && eqb y u)

pub same_turn : (u v x y : ℕ) → same_pair u v x y ≡ same_pair u v y x
same_turn u v x y = λ i. or_comm (and_comm (eqb x u) (eqb y v) i) (and_comm (eqb x v) (eqb y u) i) i

pub same_cases : (a b x y : ℕ) → same_pair a b x y ≡ true → ((x ≡ a) × (y ≡ b)) ⊎ ((x ≡ b) × (y ≡ a))
same_cases a b x y h = elim (or_cases (eqb x a && eqb y b) (eqb x b && eqb y a) h) [
  | inl p ↦ inl (eqb-true _ _ (and_parts _ _ p).0, eqb-true _ _ (and_parts _ _ p).1)
  | inr p ↦ inr (eqb-true _ _ (and_parts _ _ p).0, eqb-true _ _ (and_parts _ _ p).1)
]

-- the three ways in which a pair x, y stands to a pair a, b
pub pair_cases : (a b x y : ℕ) → ((x ≡ a) × (y ≡ b)) ⊎ (((x ≡ b) × (y ≡ a)) ⊎ (((x ≡ a) × (y ≡ b) → ⊥) × ((x ≡ b) × (y ≡ a) → ⊥)))
pair_cases a b x y =
    ⊎_elim (λ h. inl h)
    (λ (h : (x ≡ a) × (y ≡ b) → ⊥). ⊎_elim (λ k. inr (inl k)) (λ (k : (x ≡ b) × (y ≡ a) → ⊥). inr (inr (h, k))) (both x y b a))
    (both x y a b)
  where
    both : (x y a b : ℕ) → ((x ≡ a) × (y ≡ b)) ⊎ ((x ≡ a) × (y ≡ b) → ⊥)
    both x y a b =
        ⊎_elim
        (λ (e : x ≡ a). ⊎_elim (λ (f : y ≡ b). inl (e, f)) (λ (f : y ≡ b → ⊥). inr (λ z. f z.1)) (cases_eq y b))
        (λ (e : x ≡ a → ⊥). inr (λ z. e z.0))
        (cases_eq x a)

-- two graphs that differ at the pair a, b alone, where only the second has the link
pub one_link_more : (n : ℕ) (f h : ℕ → ℕ → Bool) (a b : ℕ) → a < n → b < n → (a ≡ b → ⊥)
    → ((x y : ℕ) → f x y ≡ f y x) → ((x y : ℕ) → h x y ≡ h y x) → f a b ≡ false → h a b ≡ true
    → ((x y : ℕ) → same_pair a b x y ≡ false → h x y ≡ f x y)
    → pair_sum (λ v u. one (h v u)) n ≡ pair_sum (λ v u. one (f v u)) n + 1
one_link_more n f h a b ha hb ne ef eh out held same =
    ⊎_elim
    (λ (l : a < b). ordered b a hb l (ef b a ∙ out) (eh b a ∙ held) (λ x y p q. same_other a b x y (λ z. omega (arith, z.0, z.1)) (λ z. p z.0 z.1)))
    (λ (l : b ≤ a). let m : b < a = omega arith in ordered a b ha m out held (λ x y p q. same_other a b x y (λ z. p z.0 z.1) (λ z. omega (arith, z.0, z.1))))
    (cases_lt a b)
  where
    ordered : (hi lo : ℕ) → hi < n → lo < hi → f hi lo ≡ false → h hi lo ≡ true
        → ((x y : ℕ) → (x ≡ hi → y ≡ lo → ⊥) → y < x → same_pair a b x y ≡ false)
        → pair_sum (λ v u. one (h v u)) n ≡ pair_sum (λ v u. one (f v u)) n + 1
    ordered hi lo hn l e t s =
        pairs_point (λ v u. one (h v u)) (λ v u. one (f v u)) n hi lo 1 hn l (omega (arith, ap one e, ap one t))
        (λ v u m d. ap one (same v u (s v u d m)))

-- the ends of a link that may be put in
pub record Ends (g : Graph) (u v : ℕ) : Type 0 where
  pub first : u < g.cards
  pub second : v < g.cards
  pub differ : u ≡ v → ⊥

pub with_lawful : (g : Graph) (u v : ℕ) → Lawful g → Ends g u v → Lawful (with_link g u v)
with_lawful g u v w en = record {
  even = λ x y. λ i. cond (same_turn u v x y i) true (w.even x y i);
  apart = λ x. cond-false _ _ _ (same_other u v x x (λ z. en.differ (sym z.0 ∙ z.1)) (λ z. en.differ (sym z.1 ∙ z.0))) ∙ w.apart x;
  inside = λ x y h. elim (cases_Bool (same_pair u v x y)) [
    | inl s ↦ elim (same_cases u v x y s) [ inl z ↦ omega (arith, z.0, en.first) | inr z ↦ omega (arith, z.0, en.second) ]
    | inr f ↦ w.inside x y (sym (cond-false _ _ _ f) ∙ h)
  ];
}

pub without_lawful : (g : Graph) (u v : ℕ) → Lawful g → Lawful (without_link g u v)
without_lawful g u v w = record {
  even = λ x y. λ i. cond (same_turn u v x y i) false (w.even x y i);
  apart = λ x. elim (cases_Bool (same_pair u v x x)) [ inl s ↦ cond-true _ _ _ s | inr f ↦ cond-false _ _ _ f ∙ w.apart x ];
  inside = λ x y h. elim (cases_Bool (same_pair u v x y)) [
    | inl s ↦ absurd (let z : ◌≡◌ {A = ℕ} 0 1 = ap one (sym (cond-true _ false (g.linked x y) s) ∙ h) in omega arith)
    | inr f ↦ w.inside x y (sym (cond-false _ _ _ f) ∙ h)
  ];
}

pub with_count : (g : Graph) (u v : ℕ) → Lawful g → Ends g u v → g.linked u v ≡ false → link_count (with_link g u v) ≡ link_count g + 1
with_count g u v w en out =
    one_link_more g.cards g.linked (with_link g u v).linked u v en.first en.second en.differ
    w.even (with_lawful g u v w en).even out (cond-true _ _ _ (same_straight u v)) (λ x y e. cond-false _ _ _ e)

pub without_count : (g : Graph) (u v : ℕ) → Lawful g → Ends g u v → g.linked u v ≡ true → link_count g ≡ link_count (without_link g u v) + 1
without_count g u v w en held =
    one_link_more g.cards (without_link g u v).linked g.linked u v en.first en.second en.differ
    (without_lawful g u v w).even w.even (cond-true _ _ _ (same_straight u v)) held (λ x y e. sym (cond-false _ _ _ e))

pub links_most : (g : Graph) → link_count g ≤ tri g.cards
links_most g = pairs_most (weight g) g.cards (λ v u. one_le (g.linked v u))

-- where no refusal applies
pub record MayPut (g : Graph) (p u v : ℕ) : Type 0 where
  pub ends : Ends g u v
  pub out : g.linked u v ≡ false
  pub room : link_count g ≡ p → ⊥

pub record MayTake (g : Graph) (u v : ℕ) : Type 0 where
  pub ends : Ends g u v
  pub held : g.linked u v ≡ true

passed : (b : Bool) (e : Refusal) (o : Option Refusal) → cond b (Some e) o ≡ None → (b ≡ false) × (o ≡ None)
passed true e o h = absurd cc
passed false e o h = (refl, h)

pub put_may : (g : Graph) (p u v : ℕ) → put_refusal g p u v ≡ None → MayPut g p u v
put_may g p u v h =
    let a = passed (leb g.cards u || leb g.cards v) NoSuchCard _ h in
    let b = passed (eqb u v) SameCard _ a.1 in
    let c = passed (g.linked u v) LinkHeld _ b.1 in
    let d = passed (eqb (link_count g) p) Full None c.1 in
    let o = or_parts (leb g.cards u) (leb g.cards v) a.0 in
    record {
      ends = record { first = leb-false g.cards u o.0; second = leb-false g.cards v o.1; differ = eqb-false u v b.0 };
      out = c.0;
      room = eqb-false (link_count g) p d.0;
    }

pub take_may : (g : Graph) (u v : ℕ) → take_refusal g u v ≡ None → MayTake g u v
take_may g u v h =
    let a = passed (leb g.cards u || leb g.cards v) NoSuchCard _ h in
    let b = passed (eqb u v) SameCard _ a.1 in
    let o = or_parts (leb g.cards u) (leb g.cards v) a.0 in
    record {
      ends = record { first = leb-false g.cards u o.0; second = leb-false g.cards v o.1; differ = eqb-false u v b.0 };
      held = last (g.linked u v) b.1;
    }
  where
    last : (b : Bool) → cond b None (Some LinkMissing) ≡ None → b ≡ true
    last true e = refl
    last false e = absurd cc

-- where only being full is in the way
pub record IsFull (g : Graph) (p u v : ℕ) : Type 0 where
  pub ends : Ends g u v
  pub out : g.linked u v ≡ false
  pub full : link_count g ≡ p

-- the test of an earlier refusal has passed
past : (b : Bool) (e : Refusal) (o : Option Refusal) → (refusal_number e ≡ 13 → ⊥) → cond b (Some e) o ≡ Some Full → (b ≡ false) × (o ≡ Some Full)
past true e o n h = absurd (n (let z : e ≡ Full = cc in rw z))
past false e o n h = (refl, h)

full_test : (b : Bool) → cond b (Some Full) None ≡ Some Full → b ≡ true
full_test true h = refl
full_test false h = absurd cc

pub put_full : (g : Graph) (p u v : ℕ) → put_refusal g p u v ≡ Some Full → IsFull g p u v
put_full g p u v h =
    let a = past (leb g.cards u || leb g.cards v) NoSuchCard _ (λ e. omega (arith, e)) h in
    let b = past (eqb u v) SameCard _ (λ e. omega (arith, e)) a.1 in
    let c = past (g.linked u v) LinkHeld _ (λ e. omega (arith, e)) b.1 in
    let o = or_parts (leb g.cards u) (leb g.cards v) a.0 in
    record {
      ends = record { first = leb-false g.cards u o.0; second = leb-false g.cards v o.1; differ = eqb-false u v b.0 };
      out = c.0;
      full = eqb-true (link_count g) p (full_test _ c.1);
    }
