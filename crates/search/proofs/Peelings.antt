-- A peel between two rounds, and how it ends.
use Rattle.std.proofs.Common.{◌≡◌, ℕ, suc, ◌+◌, ◌-◌, ◌*◌, ◌<◌, ◌≤◌, Bool, true, false, cond, ltb, List, length, replicate, sym, ap, ◌∙◌, subst, inl, inr, arith}
use Rattle.std.proofs.lemmas.List.{length-replicate, get_or-replicate}
use Rattle.std.proofs.lemmas.Bool.{lt-ltb}
use Rattle.books.specs.Sums.{one, when}
use Rattle.books.specs.Graphs.{Graph, weight, link_count}
use Rattle.books.proofs.Sums.{sum_eq, sum_const, pairs_eq}
use Rattle.peel.specs.Sets.{everyone, size, links_in}
use Rattle.peel.specs.declared.line.Line.{Line}
use Rattle.peel.specs.Lines.{line_of}
use Rattle.peel.specs.Levels.{Rules}
use Rattle.peel.specs.Peels.{peel, peel_cards, peel_links, LevelsUpTo, PeelLevels, Densest, Best}
use Rattle.peel.proofs.Lines.{size_same, links_same}
use Rattle.peel.proofs.Bests.{densest_one, densest_step, densest_extends}
use Rattle.peel.proofs.Peels.{level_is, levels_same, none_later, levels_empty, stays_to, levels_lifted}
use Rattle.search.specs.declared.best.BestSet.{BestSet}
use Rattle.search.specs.Rows.{rows}

-- the line that the set at a level makes
abbrev pub line_at : Rules → ℕ → Line
line_at r t = line_of r.graph (peel r t)

-- before round t
pub record Peeling (r : Rules) (t : ℕ) (xs : List ℕ) (b : BestSet) : Type 0 where
  -- the table has its rows, and the levels of the rounds so far
  pub long : length xs ≡ 1024
  pub levels : LevelsUpTo r t (rows xs)
  -- a card is left
  pub some : 0 < peel_cards r t
  -- b is the best of the sets before t, and of the first
  pub best : Densest (peel_links r) (peel_cards r) (suc (t - 1)) b.level
  pub counted : b.line ≡ line_at r b.level

-- all cards, counted
pub size_everyone : (g : Graph) → size g (everyone g) ≡ g.cards
size_everyone g = sum_eq _ (λ _. 1) g.cards (λ v h. ap one (lt-ltb v g.cards h)) ∙ sum_const 1 g.cards ∙ (let e : g.cards * 1 ≡ g.cards = omega arith in e)

pub links_everyone : (g : Graph) → links_in g (everyone g) ≡ link_count g
links_everyone g = pairs_eq _ _ g.cards (λ v u l h.
    let k : u < g.cards = omega arith in
    λ i. when (lt-ltb v g.cards h i) (when (lt-ltb u g.cards k i) (weight g v u)))

pub peeling_start : {r : Rules} {b : BestSet} → 1 ≤ r.graph.cards → r.graph.cards ≤ 1024
    → b.level ≡ 0 → b.line.cards ≡ r.graph.cards → b.line.links ≡ link_count r.graph → Peeling r 0 (replicate 1024 0) b
peeling_start {r} some few z n l =
    let pos : 0 < peel_cards r 0 = omega (arith, size_everyone r.graph) in
    record {
      long = length-replicate {A = ℕ} 1024 0;
      levels = levels_same r 0 (rows (replicate 1024 0)) (λ v. 0) (λ v h. get_or-replicate 1024 v 0 0 (omega arith)) (level_is r 0);
      some = pos;
      best = subst (λ (i : ℕ). Densest (peel_links r) (peel_cards r) 1 i) (sym z) (densest_one (peel_links r) (peel_cards r) pos);
      counted = (λ i. record { links = (l ∙ sym (links_everyone r.graph)) i; cards = (n ∙ sym (size_everyone r.graph)) i }) ∙ ap (line_at r) (sym z);
    }

-- the best so far, the set t among them
pub record Bettered (r : Rules) (t : ℕ) (b : BestSet) : Type 0 where
  pub best : Densest (peel_links r) (peel_cards r) (suc t) b.level
  pub counted : b.line ≡ line_at r b.level

pub better : {r : Rules} {t : ℕ} {xs : List ℕ} {b new b' : BestSet} → Peeling r t xs b
    → new.level ≡ t → new.line ≡ line_at r t
    → b' ≡ cond (ltb (b.line.links * new.line.cards) (new.line.links * b.line.cards)) new b → Bettered r t b'
better {r} {t} {b = b} {new = new} m z l e =
    let test : ltb (b.line.links * new.line.cards) (new.line.links * b.line.cards) ≡ ltb (peel_links r b.level * peel_cards r t) (peel_links r t * peel_cards r b.level)
    = λ i. ltb ((m.counted i).links * (l i).cards) ((l i).links * (m.counted i).cards) in
    let old : Densest (peel_links r) (peel_cards r) (suc t) (cond (ltb (b.line.links * new.line.cards) (new.line.links * b.line.cards)) t b.level)
    = subst (λ (c : Bool). Densest (peel_links r) (peel_cards r) (suc t) (cond c t b.level)) (sym test)
    (densest_step (peel_links r) (peel_cards r) t b.level m.some m.best) in
    subst (λ (x : BestSet). Bettered r t x) (sym e) (pick (ltb (b.line.links * new.line.cards) (new.line.links * b.line.cards)) old)
  where
    pick : (c : Bool) → Densest (peel_links r) (peel_cards r) (suc t) (cond c t b.level) → Bettered r t (cond c new b)
    pick true d = record {
      best = subst (λ (i : ℕ). Densest (peel_links r) (peel_cards r) (suc t) i) (sym z) d;
      counted = l ∙ ap (line_at r) (sym z);
    }
    pick false d = record { best = d; counted = m.counted }

-- on to the next round
pub peeling_next : {r : Rules} {t stayed : ℕ} {xs : List ℕ} {b : BestSet} → length xs ≡ 1024 → LevelsUpTo r (suc t) (rows xs) → stayed ≡ peel_cards r (suc t)
    → (stayed ≡ 0 → ⊥) → Bettered r t b → Peeling r (t + 1) xs b
peeling_next long lv n some d = grind (arith, lv, d.best, d.counted)

-- the peel is over, and this is what it leaves
pub record Peeled (r : Rules) (xs : List ℕ) (b : BestSet) : Type 0 where
  pub levels : PeelLevels r (rows xs)
  pub best : Best r b.level
  pub counted : b.line ≡ line_at r b.level

-- after as many rounds as the height has
pub peeled_all : {r : Rules} {t : ℕ} {xs : List ℕ} {b : BestSet} → 1 ≤ r.height → t ≡ r.height → Peeling r t xs b → Peeled r xs b
peeled_all pos e m = grind (arith, m.levels, m.best, m.counted)

-- no card is left
pub peeled_empty : {r : Rules} {t stayed : ℕ} {xs : List ℕ} {b : BestSet} → t < r.height → LevelsUpTo r (suc t) (rows xs) → stayed ≡ peel_cards r (suc t) → stayed ≡ 0
    → Bettered r t b → Peeled r xs b
peeled_empty {r} {t} {xs = xs} {b} l lv n zero d = let z = sym n ∙ zero in record {
  levels = levels_empty r (suc t) r.height (rows xs) l z lv;
  best = densest_extends (peel_links r) (peel_cards r) (suc t) r.height b.level l d.best (λ j a _. inl (none_later r (suc t) j z a));
  counted = d.counted;
}

-- no card is dropped
pub peeled_still : {r : Rules} {t stayed : ℕ} {line : Line} (xs ys : List ℕ) {b : BestSet} → t < r.height → r.graph.cards ≤ 1024 → LevelsUpTo r (suc t) (rows xs)
    → stayed ≡ peel_cards r (suc t) → line ≡ line_at r t → stayed ≡ line.cards → ((v : ℕ) → v < 1024 → rows ys v ≡ cond (ltb t (rows xs v)) r.height (rows xs v))
    → Bettered r t b → Peeled r ys b
peeled_still {r} {t} xs ys {b} l few lv n at still is d = let e = sym n ∙ still ∙ ap (λ (x : Line). x.cards) at in record {
  levels = levels_lifted r t r.height (rows xs) (rows ys) l e lv (λ v h. is v (omega arith));
  best = densest_extends (peel_links r) (peel_cards r) (suc t) r.height b.level l d.best
      (λ j a _. inr (t, omega arith, links_same r.graph _ _ (stays_to r t j (omega arith) e), size_same r.graph _ _ (stays_to r t j (omega arith) e)));
  counted = d.counted;
}
