-- A round of a peel, card by card.
use Rattle.std.proofs.Common.{◌≡◌, ℕ, suc, ◌+◌, ◌/◌, ◌<◌, ◌≤◌, true, false, List, length, set, refl, ap, ◌∙◌, inl, inr, arith, length-set}
use Rattle.std.proofs.lemmas.Bool.{cases_eq}
use Rattle.std.proofs.lemmas.Bool.Decides.{nat_tests}
use Rattle.std.proofs.lemmas.Grind.{common_steps}
use Rattle.books.specs.Sums.{sum_to, one}
use Rattle.books.specs.Graphs.{Lawful}
use Rattle.books.proofs.Sums.{sum_more, ones_le}
use Rattle.peel.specs.Sets.{Same, partners_in}
use Rattle.peel.specs.declared.line.Line.{Line}
use Rattle.peel.specs.Lines.{line_of, below}
use Rattle.peel.specs.Levels.{Rules, at_least}
use Rattle.peel.specs.Peels.{peel, peel_cards, LevelsUpTo}
use Rattle.peel.proofs.Lines.{partners_same}
use Rattle.peel.proofs.Peels.{level_to, level_is, levels_only, levels_same, level_set}
use Rattle.search.specs.Rows.{rows}
use Rattle.search.proofs.Tallies.{ends_below, more_cards, more_ends, ends_few, set_line}

-- within round t: the cards below u have been looked at
pub record MidRound (r : Rules) (t u : ℕ) (xs : List ℕ) (cards ends stayed : ℕ) : Type 0 where
  -- the table has its rows
  pub long : length xs ≡ 1024
  -- a card that was looked at has its new level, and the others their old one
  pub done : (v : ℕ) → v < u → v < r.graph.cards → rows xs v ≡ level_to r (suc t) v
  pub left : (v : ℕ) → u ≤ v → v < r.graph.cards → rows xs v ≡ level_to r t v
  -- the cards below u are counted
  pub cards_are : cards ≡ sum_to (λ v. one (peel r t v)) u
  pub ends_are : ends ≡ ends_below r.graph (peel r t) u
  pub stayed_are : stayed ≡ sum_to (λ v. one (peel r (suc t) v)) u

pub mid_start : {r : Rules} {t : ℕ} {xs : List ℕ} → length xs ≡ 1024 → LevelsUpTo r t (rows xs) → MidRound r t 0 xs 0 0 0
mid_start {r} {t} {xs} long lv = record {
  long = long;
  done = λ v l h. absurd (omega arith);
  left = λ v l h. levels_only r t (rows xs) (level_to r t) lv (level_is r t) v h;
  cards_are = refl;
  ends_are = refl;
  stayed_are = refl;
}

-- the same state under other names
pub mid_at : {r : Rules} {t u : ℕ} {xs xs' : List ℕ} {cards cards' ends ends' stayed stayed' : ℕ} → xs' ≡ xs → cards' ≡ cards → ends' ≡ ends → stayed' ≡ stayed
    → MidRound r t u xs cards ends stayed → MidRound r t u xs' cards' ends' stayed'
mid_at a b c d m = rw (a, b, c, d) m

module _ {r : Rules} {t u : ℕ} {xs : List ℕ} {cards ends stayed : ℕ} (m : MidRound r t u xs cards ends stayed) where
  -- all along the cards at level t or higher are the set t
  pub mid_set : Same r.graph (at_least (rows xs) t) (peel r t)
  mid_set v h = grind (
    arith,
    m.done v,
    m.left v,
    level_set r (suc t) (level_to r (suc t)) (level_is r (suc t)) t (omega arith) v h,
    level_set r t (level_to r t) (level_is r t) t (omega arith) v h,
  )

  -- what the round counts for the card u
  pub mid_partners : (v : ℕ)
      → partners_in r.graph (at_least (rows xs) t) v ≡ partners_in r.graph (peel r t) v
  mid_partners v = partners_same r.graph _ _ v (mid_set)

  -- u is not in the set t
  pub mid_pass : u < r.graph.cards → rows xs u < t → MidRound r t (u + 1) xs cards ends stayed
  mid_pass l low =
      let out : peel r t u ≡ false = grind (arith, nat_tests, mid_set u l) in
      record {
        long = m.long;
        done = λ v h k. grind (arith, out, m.done v, m.left v);
        left = λ v h k. m.left v (omega arith) k;
        cards_are = grind (arith, m.cards_are, more_cards (peel r t) u false out);
        ends_are = grind (arith, m.ends_are, more_ends r.graph (peel r t) u false out);
        stayed_are = grind (arith, m.stayed_are, out, sum_more (λ v. one (peel r (suc t) v)) u);
      }

  -- u is in the set t, and its d partners there are below the line
  pub mid_drop : {d : ℕ} → u < r.graph.cards
      → t ≤ rows xs u → d ≡ partners_in r.graph (at_least (rows xs) t) u → below r.p r.q r.line d ≡ true
      → MidRound r t (u + 1) xs (cards + 1) (ends + d) stayed
  mid_drop {d} l high e b =
      let inn : peel r t u ≡ true = grind (arith, nat_tests, mid_set u l) in
      let f : d ≡ partners_in r.graph (peel r t) u = e ∙ mid_partners u in
      let next : peel r (suc t) u ≡ false = grind (arith, inn, ap (below r.p r.q r.line) f, b) in
      record {
        long = m.long;
        done = λ v h k. grind (arith, next, m.done v, m.left v);
        left = λ v h k. m.left v (omega arith) k;
        cards_are = grind (arith, m.cards_are, more_cards (peel r t) u true inn);
        ends_are = grind (arith, m.ends_are, more_ends r.graph (peel r t) u true inn, f);
        stayed_are = grind (arith, m.stayed_are, more_cards (peel r (suc t)) u false next);
      }

  -- u is in the set t, and stays
  pub mid_stay : {d : ℕ} → u < r.graph.cards → u < 1024
      → t ≤ rows xs u → d ≡ partners_in r.graph (at_least (rows xs) t) u → below r.p r.q r.line d ≡ false
      → MidRound r t (u + 1) (set xs u (t + 1)) (cards + 1) (ends + d) (stayed + 1)
  mid_stay {d} l few high e b =
      let inn : peel r t u ≡ true = grind (arith, nat_tests, mid_set u l) in
      let f : d ≡ partners_in r.graph (peel r t) u = e ∙ mid_partners u in
      let next : peel r (suc t) u ≡ true = grind (arith, inn, ap (below r.p r.q r.line) f, b) in
      record {
        long = length-set xs u (t + 1) ∙ m.long;
        done = λ v h k. elim (cases_eq v u) [
          | inl z ↦ grind (arith, common_steps, next, m.long)
          | inr n ↦ grind (arith, common_steps, m.done v)
        ];
        left = λ v h k. grind (arith, common_steps, m.left v);
        cards_are = grind (arith, m.cards_are, more_cards (peel r t) u true inn);
        ends_are = grind (arith, m.ends_are, more_ends r.graph (peel r t) u true inn, f);
        stayed_are = grind (arith, m.stayed_are, more_cards (peel r (suc t)) u true next);
      }

  -- the counts are small
  pub mid_cards : (cards ≤ u) × (stayed ≤ u)
  mid_cards = (omega (arith, m.cards_are, ones_le (peel r t) u), omega (arith, m.stayed_are, ones_le (peel r (suc t)) u))

  pub mid_ends : u ≤ 1024 → r.graph.cards ≤ 1024 → ends ≤ 1048576
  mid_ends h n = omega (arith, m.ends_are, ends_few r.graph (peel r t) u h n)

  -- at the end of the round
  pub mid_levels : r.graph.cards ≤ u → LevelsUpTo r (suc t) (rows xs)
  mid_levels h = levels_same r (suc t) (rows xs) (level_to r (suc t)) (λ v l. m.done v (omega arith) l) (level_is r (suc t))

  pub mid_line : Lawful r.graph → u ≡ r.graph.cards
      → ◌≡◌ {A = Line} (record { links = ends / 2; cards = cards }) (line_of r.graph (peel r t))
  mid_line w e = set_line r.graph (peel r t) u cards ends w e m.cards_are m.ends_are

  pub mid_stayed : u ≡ r.graph.cards → stayed ≡ peel_cards r (suc t)
  mid_stayed e = m.stayed_are ∙ ap (sum_to (λ v. one (peel r (suc t) v))) e
