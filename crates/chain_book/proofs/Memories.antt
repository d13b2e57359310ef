-- What one insertion, and one removal, makes of the records and of what they mean.
use Rattle.std.proofs.Common.{◌≡◌, ℕ, ◌<◌, ◌≤◌, Bool, true, false, cond, ◌&&◌, eqb, List, [], ◌∷◌, ◌++◌, length, sym, refl, ap, ◌∙◌, inl, inr, arith}
use Rattle.std.proofs.lemmas.Grind.{common_steps}
use Rattle.std.proofs.lemmas.Bool.Decides.{nat_tests}
use Rattle.std.proofs.lemmas.Bool.{both_ways, cases_eq}
use Rattle.books.proofs.Partners.{Lowest}
use Rattle.chain_book.specs.declared.record.Record.{Record}
use Rattle.chain_book.specs.Records.{next_of, partner_of, chain, free_records}
use Rattle.chain_book.specs.Meaning.{holds, chain_linked}
use Rattle.chain_book.specs.Order.{In, Distinct, Run, Keeps, Chains}
use Rattle.chain_book.specs.Steps.{lower, onward, last_or, stop, first_partner, pointed, spliced, cut, found, hung, unhung}
use Rattle.chain_book.proofs.Runs.{run_after, follow_run, follow_length, step, whole}
use Rattle.chain_book.proofs.Holdings.{holds_same, holds_not, holds_insert, holds_remove, chain_lowest}
use Rattle.chain_book.proofs.Changes.{upd, upd_here, upd_there, stop_free, stop_within, chain_distinct, keeps_insert, keeps_remove, keeps_met, keeps_followed}

-- among cards, a link is what the chain holds
pub linked_holds : (n : ℕ) (rs : List Record) (u v : ℕ) → u < n → chain_linked n rs u v ≡ holds (partner_of rs) v (chain rs u)
linked_holds n rs u v lu = grind (arith, nat_tests)

-- what the records mean, where the chain of u alone has changed
linked_else : (n : ℕ) (rs ss : List Record) (u w : ℕ) (x : Bool) → u < n
    → ((b : ℕ) → holds (partner_of ss) b (chain ss u) ≡ cond (eqb b w) x (holds (partner_of rs) b (chain rs u)))
    → ((a b : ℕ) → a < n → (a ≡ u → ⊥) → holds (partner_of ss) b (chain ss a) ≡ holds (partner_of rs) b (chain rs a))
    → (a b : ℕ) → chain_linked n ss a b ≡ cond (eqb a u && eqb b w) x (chain_linked n rs a b)
linked_else n rs ss u w x lu here there a b = grind (arith, nat_tests)

-- the named lists are read off the records
pub record Read (n : ℕ) (rs : List Record) (free : ℕ) (P : ℕ → List ℕ) (F : List ℕ) : Type 0 where
  pub chains : Chains n rs free
  pub chain_is : (v : ℕ) → v < n → chain rs v ≡ P v
  pub free_is : free_records rs free ≡ F

pub read_off : (n m : ℕ) (rs : List Record) (free : ℕ) (P : ℕ → List ℕ) (F : List ℕ) → m ≡ length rs → Keeps n m (next_of rs) (partner_of rs) free P F → length F ≤ m → Read n rs free P F
read_off n m rs free P F em K l =
    let K' : Keeps n (length rs) (next_of rs) (partner_of rs) free P F = rw (← em) K in
    let l' : length F ≤ length rs = omega arith in
    record {
      chains = keeps_followed K' l';
      chain_is = keeps_met K';
      free_is = follow_run n (length rs) (next_of rs) free F (length rs) K'.some K'.spare l';
    }

-- the link from u to w is put into the records rs, which leaves ss
pub record Inserted (n : ℕ) (rs ss : List Record) (free rest u w : ℕ) : Type 0 where
  pub chains : Chains n ss rest
  pub linked : (a b : ℕ) → chain_linked n ss a b ≡ cond (eqb a u && eqb b w) true (chain_linked n rs a b)
  pub spare : free_records rs free ≡ free ∷ free_records ss rest
  pub size : length ss ≡ length rs

-- the link from u to w is taken out of the records rs, which leaves ss
pub record Removed (n : ℕ) (rs ss : List Record) (free gone u w : ℕ) : Type 0 where
  pub chains : Chains n ss gone
  pub linked : (a b : ℕ) → chain_linked n ss a b ≡ cond (eqb a u && eqb b w) false (chain_linked n rs a b)
  pub spare : free_records ss gone ≡ gone ∷ free_records rs free
  pub size : length ss ≡ length rs

splice_inserted : (n : ℕ) (rs : List Record) (free u w : ℕ) → Chains n rs free → u < n → w < n → chain_linked n rs u w ≡ false → (free ≡ 0 → ⊥)
    → Inserted n rs (spliced rs (stop rs u w) free w) free (next_of rs free) u w
splice_inserted n rs free u w K lu lw new some =
    let at : ℕ = stop rs u w in
    let F : List ℕ = free_records rs (next_of rs free) in
    let js : List ℕ = lower (partner_of rs) w (chain rs u) ++ free ∷ onward (partner_of rs) w (chain rs u) in
    let ss : List Record = spliced rs (stop rs u w) free w in
    let o = step n (length rs) (next_of rs) free K.some some K.spare in
    let K0 : Keeps n (length rs) (next_of rs) (partner_of rs) free (chain rs) (free ∷ free_records rs (next_of rs free)) = rw o.first at K in
    let lf : free < length rs = o.high in
    let la : stop rs u w < length rs = stop_within K u w lu in
    let ne : free ≡ stop rs u w → ⊥ = λ e. stop_free K0 u w lu (inl (sym e)) in
    let size : length ss ≡ length rs = grind (arith, common_steps) in
    let here : next_of ss (stop rs u w) ≡ free = grind (arith, common_steps) in
    let on : next_of ss free ≡ next_of rs (stop rs u w) = grind (arith, common_steps, ne) in
    let same : (j : ℕ) → (j ≡ stop rs u w → ⊥) → (j ≡ free → ⊥) → next_of ss j ≡ next_of rs j = λ j na nf. grind (arith, common_steps) in
    let is : partner_of ss free ≡ w = grind (arith, common_steps) in
    let others : (j : ℕ) → (j ≡ free → ⊥) → partner_of ss j ≡ partner_of rs j = λ j nf. grind (arith, common_steps) in
    let kept : (v : ℕ) → v < n → (j : ℕ) → In j (chain rs v) → partner_of ss j ≡ partner_of rs j = λ v lv j h. others j (λ e. K0.unused v j lv h (inl e)) in
    let K1 : Keeps n (length rs) (next_of ss) (partner_of ss) (next_of rs free) (upd (chain rs) u js) F =
    keeps_insert u w K0 lu lw (holds_not (partner_of rs) w (chain rs u) (sym (linked_holds n rs u w lu) ∙ new))
    here on same is others in
    let R = read_off n (length rs) ss (next_of rs free) (upd (chain rs) u js) F (sym size) K1 (follow_length (length rs) (next_of rs) (next_of rs free)) in
    record {
      chains = R.chains;
      linked = linked_else n rs ss u w true lu
          (λ b. rw (R.chain_is u lu, upd_here) (holds_insert (partner_of rs) (partner_of ss) free w b (chain rs u) is (kept u lu)))
          (λ a b la na. rw (R.chain_is a la, upd_there (chain rs) u js a na) (holds_same (partner_of rs) (partner_of ss) b (chain rs a) (kept a la)));
      spare = rw R.free_is o.first;
      size = size;
    }

pub inserted : {n : ℕ} {rs : List Record} {free : ℕ} (u w : ℕ) → Chains n rs free → u < n → w < n → chain_linked n rs u w ≡ false → (free ≡ 0 → ⊥)
    → (ss : List Record) (rest : ℕ) → ss ≡ hung rs free u w → rest ≡ next_of rs free → Inserted n rs ss free rest u w
inserted {n} {rs} {free} u w K lu lw new some ss rest es er = rw (es, er) (splice_inserted n rs free u w K lu lw new some)

-- where u's chain holds w, the walk stops before the record that does
pub record Held (rs : List Record) (u w : ℕ) : Type 0 where
  pub rest : List ℕ
  pub split : onward (partner_of rs) w (chain rs u) ≡ next_of rs (stop rs u w) ∷ rest
  pub is : partner_of rs (next_of rs (stop rs u w)) ≡ w
  pub within : next_of rs (stop rs u w) < length rs

pub held : {n : ℕ} {rs : List Record} {free : ℕ} (u w : ℕ) → Chains n rs free → u < n → chain_linked n rs u w ≡ true → Held rs u w
held {n} {rs} u w K lu has = found (onward (partner_of rs) w (chain rs u)) refl
  where
    h : holds (partner_of rs) w (chain rs u) ≡ true
    h = sym (linked_holds n rs u w lu) ∙ has

    lowest : Lowest (λ v. holds (partner_of rs) v (chain rs u)) w (first_partner (partner_of rs) (onward (partner_of rs) w (chain rs u)))
    lowest = chain_lowest n (partner_of rs) 0 w (chain rs u) (K.ascends u lu)

    found : (zs : List ℕ) → onward (partner_of rs) w (chain rs u) ≡ zs → Held rs u w
    found [] e =
        let l = rw e at lowest in
        absurd (both_ways _ (l w (omega arith)) h)
    found (j ∷ js) e =
        let l = rw e at lowest in
        let r : Run n (length rs) (next_of rs) (next_of rs (stop rs u w)) (j ∷ js) =
        run_after n (length rs) (next_of rs) u (lower (partner_of rs) w (chain rs u)) (j ∷ js) (rw (← e, whole) (K.runs u lu)) in
        record {
          rest = js;
          split = rw (r.0) e;
          is = ap (partner_of rs) r.0 ∙ elim (cases_eq (partner_of rs j) w) [ inl q ↦ q | inr ne ↦ absurd (both_ways _ (l.2 w (omega arith) (omega (arith, l.0))) h) ];
          within = omega (arith, r.0, r.2);
        }

cut_removed : (n : ℕ) (rs : List Record) (free u w : ℕ) → Chains n rs free → u < n → chain_linked n rs u w ≡ true → length (free_records rs free) < length rs
    → Removed n rs (pointed (cut rs (stop rs u w)) (next_of rs (stop rs u w)) free) free (next_of rs (stop rs u w)) u w
cut_removed n rs free u w K lu has fit =
    let H = held u w K lu has in
    let g : ℕ = next_of rs (stop rs u w) in
    let xs : List ℕ = lower (partner_of rs) w (chain rs u) in
    let js : List ℕ = lower (partner_of rs) w (chain rs u) ++ H.rest in
    let eq : chain rs u ≡ lower (partner_of rs) w (chain rs u) ++ next_of rs (stop rs u w) ∷ H.rest =
    sym (whole (partner_of rs) w (chain rs u)) ∙ ap (λ (zs : List ℕ). lower (partner_of rs) w (chain rs u) ++ zs) H.split in
    let ss : List Record = pointed (cut rs (stop rs u w)) (next_of rs (stop rs u w)) free in
    let la : stop rs u w < length rs = stop_within K u w lu in
    let lg : next_of rs (stop rs u w) < length rs = H.within in
    let ne : stop rs u w ≡ next_of rs (stop rs u w) → ⊥ = λ e.
    apart_last u xs g H.rest (rw (← eq) (chain_distinct K u w lu)) (sym e) in
    let size : length ss ≡ length rs = grind (arith, common_steps) in
    let here : next_of ss (stop rs u w) ≡ next_of rs (next_of rs (stop rs u w)) = grind (arith, common_steps, ne) in
    let on : next_of ss (next_of rs (stop rs u w)) ≡ free = grind (arith, common_steps) in
    let same : (j : ℕ) → (j ≡ stop rs u w → ⊥) → (j ≡ next_of rs (stop rs u w) → ⊥) → next_of ss j ≡ next_of rs j = λ j na ng. grind (arith, common_steps) in
    let others : (j : ℕ) → partner_of ss j ≡ partner_of rs j = λ j. grind (arith, common_steps) in
    let K1 : Keeps n (length rs) (next_of ss) (partner_of ss) (next_of rs (stop rs u w)) (upd (chain rs) u js) (next_of rs (stop rs u w) ∷ free_records rs free) =
    keeps_remove u w g H.rest K lu H.split here on same others in
    let R = read_off n (length rs) ss g (upd (chain rs) u js) (g ∷ free_records rs free) (sym size) K1 (omega arith) in
    record {
      chains = R.chains;
      linked = linked_else n rs ss u w false lu
          (λ b.
          rw (R.chain_is u lu, upd_here) (holds_same (partner_of rs) (partner_of ss) b js (λ j h. others j)
          ∙ (holds_remove n (partner_of rs) 0 g w b xs H.rest (rw (← eq) (K.ascends u lu)) H.is
          ∙ ap (λ (zs : List ℕ). cond (eqb b w) false (holds (partner_of rs) b zs)) (sym eq))))
          (λ a b la na. rw (R.chain_is a la, upd_there (chain rs) u js a na) (holds_same (partner_of rs) (partner_of ss) b (chain rs a) (λ j h. others j)));
      spare = R.free_is;
      size = size;
    }
  where
    -- a record of a chain is not the one before it
    apart_last : (u : ℕ) (xs : List ℕ) (g : ℕ) (ys : List ℕ) → Distinct (u ∷ xs ++ g ∷ ys) → g ≡ last_or u xs → ⊥
    apart_last u [] g ys d e = d.0 (inl (sym e))
    apart_last u (x ∷ xs) g ys d e = apart_last x xs g ys d.1 e

pub removed : {n : ℕ} {rs : List Record} {free : ℕ} (u w : ℕ) → Chains n rs free → u < n → chain_linked n rs u w ≡ true → length (free_records rs free) < length rs
    → (ss : List Record) (gone : ℕ) → ss ≡ unhung rs free u w → gone ≡ found rs u w → Removed n rs ss free gone u w
removed {n} {rs} {free} u w K lu has fit ss gone es eg = rw (es, eg) (cut_removed n rs free u w K lu has fit)
