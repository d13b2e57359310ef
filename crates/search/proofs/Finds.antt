-- From the search that the code ran to what the search by itself answers.
use Rattle.std.proofs.Common.{◌≡◌, ℕ, ◌<◌, ◌≤◌, true, false, List, ◌++◌, length, drop, replicate, IfOk, Ok, Err, Result, sym, refl, ap, ◌∙◌, subst, arith}
use Rattle.std.specs.Result.{result_err}
use Rattle.std.proofs.lemmas.List.{get_or-replicate}
use Rattle.std.proofs.lemmas.Bool.{lt-ltb, le-ltb, cond-true, cond-false}
use Rattle.std.proofs.lemmas.Result.{IfOk-weaker}
use Rattle.books.specs.declared.refusal.Refusal.{Refusal}
use Rattle.books.specs.declared.refusal.Refusal.TheVariants.{ListTooShort}
use Rattle.books.specs.Books.{IsBook}
use Rattle.books.specs.Graphs.{Graph, Lawful}
use Rattle.books.specs.Refusals.{unless_refused}
use Rattle.peel.specs.Tolerances.{Height}
use Rattle.peel.specs.Sets.{Cards, everyone, Same, size, links_in, listed}
use Rattle.peel.specs.Searches.{Outcome, Search, Alike}
use Rattle.peel.specs.declared.line.Line.{Line}
use Rattle.peel.specs.Theorems.{NoneDenser, Sound}
use Rattle.peel.proofs.Heights.{height_one}
use Rattle.peel.proofs.Lines.{size_same, links_same}
use Rattle.peel.proofs.Searches.{search_sound, search_some, search_only, search_move}
use Rattle.search.specs.declared.found.Group.{Group}
use Rattle.search.specs.declared.searched.Searched.{Searched}
use Rattle.search.specs.Rows.{marked}
use Rattle.search.specs.Outcomes.{outcome}
use Rattle.search.specs.Answers.{group_refusal, Answered}
use Rattle.search.proofs.Listings.{count, listed_same}
use Rattle.search.proofs.Peelings.{size_everyone}

-- a mark in every row marks every card
pub all_marked : (g : Graph) → g.cards ≤ 1024 → Same g (marked (replicate 1024 true)) (everyone g)
all_marked g few v h = get_or-replicate 1024 v true false (omega arith) ∙ sym (lt-ltb v g.cards h)

pub answered : (g : Graph) (p q k : ℕ) → Lawful g → 1 ≤ q → Height p q g.cards k
    → (S : Cards) → Same g S (everyone g) → (o : Outcome) → Search g p q k S o → (was is : List ℕ) (r : Result Group Refusal)
    → result_err r ≡ group_refusal (size g o.kept) (length was)
    → IfOk r (λ f. (f.cards ≡ size g o.kept) × (f.links ≡ links_in g o.kept) × (f.peels ≡ o.peels))
    → is ≡ unless_refused (result_err r) was (listed o.kept g.cards ++ drop (size g o.kept) was)
    → Answered g p q was r is
answered g p q k w qs ht S same o s was is r refused counts list = at (search_move same s)
  where
    at : (o' : Outcome) × Search g p q k (everyone g) o' × Alike g o o' → Answered g p q was r is
    at x =
        let cards : size g o.kept ≡ size g x.0.kept = size_same g _ _ x.2.kept in
        let links : links_in g o.kept ≡ links_in g x.0.kept = links_same g _ _ x.2.kept in
        record {
          outcome = x.0;
          found = (k, ht, x.1);
          only = λ a f. search_only (λ v h. refl) x.1 (subst (λ (j : ℕ). Search g p q j (everyone g) a) (height_one f.1 ht) f.2);
          sound = λ j h. search_sound w qs h (subst (λ (i : ℕ). Search g p q i (everyone g) x.0) (height_one ht h) x.1);
          refused = refused ∙ ap (λ (n : ℕ). group_refusal n (length was)) cards;
          counts = IfOk-weaker r _ _ (λ f c. (c.0 ∙ cards, c.1 ∙ links, c.2 ∙ x.2.peels)) counts;
          list = list ∙ (λ i. unless_refused (result_err r) was (listed_same o.kept x.0.kept g.cards x.2.kept i ++ drop (cards i) was));
        }

-- what is known of the search that the code ran, from a mark in every row
pub record Ran (h : Graph) (p q : ℕ) (s : Searched) : Type 0 where
  pub least : 1 ≤ p
  pub order : p ≤ q
  pub search : Search h p q s.height (marked (replicate 1024 true)) (outcome s)
  pub height : Height p q h.cards s.height
  pub sound : Sound h p q s.height (outcome s)

module _ {h : Graph} {p q : ℕ} {s : Searched} (b : IsBook h) (r : Ran h p q s) where
  cards_are : s.line.cards ≡ size h (marked s.kept)
  cards_are = ap (λ (l : Line). l.cards) r.sound.line

  links_are : s.line.links ≡ links_in h (marked s.kept)
  links_are = ap (λ (l : Line). l.links) r.sound.line

  pub too_short : (was : List ℕ) → length was < s.line.cards → Answered h p q was (Err ListTooShort) was
  too_short was short =
      let more : length was < size h (marked s.kept) = omega (arith, cards_are) in
      answered h p q s.height b.lawful (omega (arith, r.least, r.order)) r.height _ (all_marked h b.most) (outcome s) r.search was was (Err ListTooShort)
      (sym (cond-true _ _ _ (lt-ltb _ _ more))) tt refl

  pub finds : (was is : List ℕ) (n : ℕ) → n ≡ h.cards → s.line.cards ≤ length was
      → is ≡ listed (marked s.kept) n ++ drop (count (marked s.kept) n) was
      → Answered h p q was (Ok (record { cards = s.line.cards; links = s.line.links; peels = s.peels })) is
  finds was is n e room wrote =
      let enough : size h (marked s.kept) ≤ length was = omega (arith, cards_are) in
      answered h p q s.height b.lawful (omega (arith, r.least, r.order)) r.height _ (all_marked h b.most) (outcome s) r.search was is
      (Ok (record { cards = s.line.cards; links = s.line.links; peels = s.peels }))
      (sym (cond-false _ _ _ (le-ltb _ _ enough))) (cards_are, links_are, refl)
      (wrote ∙ (λ i. listed (marked s.kept) (e i) ++ drop (count (marked s.kept) (e i)) was))

  -- no set is much denser than the group, and the group is not empty
  pub bounded : NoneDenser h p q s.line.links s.line.cards
  bounded = subst (λ (l : Line). NoneDenser h p q l.links l.cards) (sym r.sound.line) r.sound.bound

  pub some_kept : 0 < s.line.cards
  some_kept = omega (arith, cards_are, search_some r.search (omega (arith, b.least, size_same h _ _ (all_marked h b.most), size_everyone h)))
