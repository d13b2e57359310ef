-- A search between two peels, and how it goes on or ends.
use Rattle.std.proofs.Common.{◌≡◌, ℕ, suc, ◌+◌, ◌*◌, ◌<◌, ◌≤◌, Bool, true, false, sym, ap, ◌∙◌, subst, le_of_lt, arith}
use Rattle.books.specs.Graphs.{Graph, Lawful}
use Rattle.peel.specs.declared.line.Line.{Line}
use Rattle.peel.specs.Sets.{Cards, Same, size, links_in}
use Rattle.peel.specs.Lines.{line_of, reaches}
use Rattle.peel.specs.Levels.{Rules, rules, Table, at_least}
use Rattle.peel.specs.Peels.{peel, PeelLevels, Best}
use Rattle.peel.specs.Searches.{Outcome, rules_from, reaches_at, Search, ends, again}
use Rattle.peel.proofs.Lines.{line_same}
use Rattle.peel.proofs.Peels.{level_set}
use Rattle.search.proofs.Peelings.{line_at}
use Rattle.peel.proofs.Searches.{rank, rank_le, rank_grows, rank_same}

-- the outcome, with more peels before it
abbrev pub after : ℕ → Outcome → Outcome
after n o = record { kept = o.kept; line = o.line; levels = o.levels; peels = n + o.peels }

-- after so many peels of the search from S: what is kept now, and the line
pub record Searching (g : Graph) (p q k : ℕ) (S K : Cards) (l : Line) (peels : ℕ) : Type 0 where
  -- the search from K gives what is still to come
  pub goes : (o : Outcome) → Search g p q k K o → Search g p q k S (after peels o)
  pub line : l ≡ line_of g K
  -- each peel made the kept set denser
  pub few : peels ≤ rank g K

-- what the peel against the line l left
pub record OnePeel (r : Rules) (L : Table) (t : ℕ) (new : Line) : Type 0 where
  pub levels : PeelLevels r L
  pub best : Best r t
  pub line_is : new ≡ line_at r t

module _ {g : Graph} {p q k : ℕ} {S K : Cards} {l : Line} {peels : ℕ} (m : Searching g p q k S K l peels) where
  -- so many peels are no more than fit
  pub searching_few : Lawful g → peels ≤ g.cards * g.cards * g.cards
  searching_few w = omega (arith, m.few, rank_le g w K)

  module _ {L : Table} {t : ℕ} {new : Line} (one : OnePeel (rules g p q l k) L t new) where
    e : rules g p q l k ≡ rules_from g p q k K
    e = ap (λ (x : Line). rules g p q x k) m.line

    hit : {b : Bool} → reaches p q l new.links new.cards ≡ b → reaches_at (rules g p q l k) t ≡ b
    hit re = sym (λ i. reaches p q l (one.line_is i).links (one.line_is i).cards) ∙ re

    set_is : (B : Cards) → Same g B (at_least L t) → Same g B (peel (rules g p q l k) t)
    set_is B same v h = same v h ∙ level_set (rules g p q l k) k L one.levels t (le_of_lt one.best.among) v h

    pub searching_ends : reaches p q l new.links new.cards ≡ false → Search g p q k S (record { kept = K; line = l; levels = L; peels = peels + 1 })
    searching_ends sh =
        subst (λ (x : Line). Search g p q k S (record { kept = K; line = x; levels = L; peels = peels + 1 })) (sym m.line)
        (m.goes (record { kept = K; line = line_of g K; levels = L; peels = 1 })
        (ends t (subst (λ (x : Rules). Best x t) e one.best) (subst (λ (x : Rules). reaches_at x t ≡ false) e (hit sh)) (subst (λ (x : Rules). PeelLevels x L) e one.levels)))

    -- the best set B, which reaches the line, outranks K
    pub searching_grows : Lawful g → 1 ≤ p → reaches p q l new.links new.cards ≡ true → (B : Cards) → Same g B (at_least L t) → rank g K < rank g B
    searching_grows w ps re B same =
        let X : Cards = peel (rules g p q l k) t in
        let over : reaches p q (line_of g K) (links_in g X) (size g X) ≡ true = sym (λ i. reaches p q (m.line i) (one.line_is i).links (one.line_is i).cards) ∙ re in
        subst (λ (x : ℕ). rank g K < x) (sym (rank_same g B X (set_is B same))) (rank_grows g p q w ps K X one.best.some over)

    pub searching_again : Lawful g → 1 ≤ p → reaches p q l new.links new.cards ≡ true → (B : Cards) → Same g B (at_least L t) → Searching g p q k S B new (peels + 1)
    searching_again w ps re B same = record {
      goes = λ o s.
          let step : Search g p q k S (after peels (record { kept = o.kept; line = o.line; levels = o.levels; peels = suc o.peels }))
          = m.goes _ (again t (subst (λ (x : Rules). Best x t) e one.best) (subst (λ (x : Rules). reaches_at x t ≡ true) e (hit re))
          (subst (λ (x : Rules). Same g B (peel x t)) e (set_is B same)) s) in
          let n : peels + suc o.peels ≡ peels + 1 + o.peels = omega arith in
          subst (λ (x : ℕ). Search g p q k S (record { kept = o.kept; line = o.line; levels = o.levels; peels = x })) n step;
      line = one.line_is ∙ sym (line_same g B (peel (rules g p q l k) t) (set_is B same));
      few = omega (arith, m.few, searching_grows w ps re B same);
    }
