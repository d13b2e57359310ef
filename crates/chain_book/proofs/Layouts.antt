-- The records of a new book.
use Rattle.std.proofs.Common.{◌≡◌, ℕ, zero, suc, ◌+◌, ◌-◌, ◌<◌, ◌≤◌, false, ◌⊎◌, List, [], ◌++◌, length, take, drop, sym, refl, ap, ◌∙◌, inl, inr, arith}
use Rattle.std.specs.List.{range_with_len}
use Rattle.std.proofs.lemmas.List.FromFn.{length-range_with_len, length-map-range_with_len, get_or-map-range_with_len}
use Rattle.std.proofs.lemmas.List.{length-append, take_at}
use Rattle.std.proofs.lemmas.Bool.Decides.{nat_tests}
use Rattle.std.proofs.lemmas.Bool.{cases_eq, cases_lt}
use Rattle.books.specs.Sums.{one}
use Rattle.books.specs.Graphs.{Lawful, weight, link_count}
use Rattle.books.proofs.Sums.{pairs_none}
use Rattle.chain_book.specs.declared.record.Record.{Record}
use Rattle.chain_book.specs.Records.{blank, next_of, free_records}
use Rattle.chain_book.specs.Meaning.{chain_linked, chain_graph}
use Rattle.chain_book.specs.Order.{In, Distinct, Run, Sound}
use Rattle.chain_book.specs.Layout.{records_needed, cards_made, records_made, new_next, laid, first_free}
use Rattle.chain_book.proofs.Memories.{Read, read_off}

laid_length : (n m : ℕ) → length (laid n m) ≡ m
laid_length n m = length-map-range_with_len (λ i. record { partner = 0; next = new_next n m i }) 0 m

laid_next : (n m k : ℕ) → k < m → next_of (laid n m) k ≡ new_next n m k
laid_next n m k h = ap (λ (r : Record). r.next) (get_or-map-range_with_len (λ i. record { partner = 0; next = new_next n m i }) 0 m k k blank h (omega arith))

-- the free records are those after the heads, in their order
counting_from : (i k j : ℕ) → In j (range_with_len i k) → i ≤ j
counting_from i zero j h = absurd h
counting_from i (suc k) j (inl e) = omega arith
counting_from i (suc k) j (inr h) = omega (arith, counting_from (i + 1) k j h)

counting_distinct : (i k : ℕ) → Distinct (range_with_len i k)
counting_distinct i zero = tt
counting_distinct i (suc k) = ((λ h. omega (arith, counting_from (i + 1) k i h)), counting_distinct (i + 1) k)

counting_all : (i k j : ℕ) → i ≤ j → j < i + k → In j (range_with_len i k)
counting_all i zero j l h = absurd (omega arith)
counting_all i (suc k) j l h = elim (cases_eq j i) [ inl e ↦ inl e | inr ne ↦ inr (counting_all (i + 1) k j (omega arith) (omega arith)) ]

free_run : (n m k i : ℕ) → n ≤ i → i + suc k ≡ m → Run n m (next_of (laid n m)) i (range_with_len i (suc k))
free_run n m zero i l e = (refl, l, omega arith, laid_next n m i (omega arith) ∙ grind (arith, nat_tests))
free_run n m (suc k) i l e =
    let q : next_of (laid n m) i ≡ i + 1 = laid_next n m i (omega arith) ∙ grind (arith, nat_tests) in
    (refl, l, omega arith, rw q (free_run n m k (i + 1) (omega arith) (omega arith)))

first_run : (n m : ℕ) → n ≤ m → Run n m (next_of (laid n m)) (first_free n m) (range_with_len n (m - n))
first_run n m l = elim (cases_lt n m) [
  | inl lt ↦ (
      let e : first_free n m ≡ n = grind (arith, nat_tests) in
      let d : m - n ≡ suc (m - suc n) = omega arith in
      rw (e, d) (free_run n m (m - suc n) n (omega arith) (omega arith)))
  | inr ge ↦ (
      let e : first_free n m ≡ 0 = grind (arith, nat_tests) in
      let d : m - n ≡ 0 = omega arith in
      rw (e, d) refl)
]

laid_read : (n m : ℕ) → 1 ≤ n → n ≤ m → Read n (laid n m) (first_free n m) (λ _. []) (range_with_len n (m - n))
laid_read n m some l =
    read_off n m (laid n m) (first_free n m) (λ _. []) (range_with_len n (m - n)) (sym (laid_length n m))
    (record {
      some = some;
      heads = l;
      runs = λ u lu. laid_next n m u (omega arith) ∙ grind (arith, nat_tests);
      ascends = λ u lu. tt;
      spare = first_run n m l;
      once = counting_distinct n (m - n);
      apart = λ u v k lu lv hu hv. absurd hu;
      unused = λ u k lu hu hF. hu;
      none_lost = λ k lo hi no. counting_all n (m - n) k lo (omega arith);
    })
    (omega (arith, length-range_with_len n (m - n)))

-- where no two cards are linked
none_lawful : (n : ℕ) (rs : List Record) → ((u v : ℕ) → chain_linked n rs u v ≡ false) → Lawful (chain_graph n rs)
none_lawful n rs none = grind (arith, nat_tests)

none_count : (n : ℕ) (rs : List Record) → ((u v : ℕ) → chain_linked n rs u v ≡ false) → link_count (chain_graph n rs) ≡ 0
none_count n rs none = pairs_none (weight (chain_graph n rs)) n (λ v u _ _. ap one (none v u))

-- A book that is asked for so many cards on the records rs, and gets n cards on m records.
module _ (asked : ℕ) (rs : List Record) {n m : ℕ} (en : n ≡ cards_made asked (length rs)) (em : m ≡ records_made asked (length rs)) where
  -- it has what it asked for, or one card on no record
  made_cases : ((1 ≤ n) × (n ≤ 1024) × (n ≤ m) × (records_needed n m ≡ m)) ⊎ ((n ≡ 1) × (m ≡ 0))
  made_cases = grind (arith, nat_tests)

  made_none : (u v : ℕ) → chain_linked n (laid n m) u v ≡ false
  made_none u v = elim made_cases [
    | inl c ↦ grind (arith, nat_tests, (laid_read n m c.0 c.2).chain_is u)
    | inr c ↦ rw c.1 (grind (arith, nat_tests))
  ]

  made_sound : Sound n (laid n m) (first_free n m) 0
  made_sound = elim made_cases [
    | inl c ↦ (
        let R = laid_read n m c.0 c.2 in
        record {
          least = c.0;
          most = c.1;
          lawful = none_lawful n (laid n m) made_none;
          tally = sym (none_count n (laid n m) made_none);
          single = λ e. absurd (omega (arith, e, laid_length n m, c.0, c.2));
          whole = λ _. omega (arith, laid_length n m, c.3);
          chains = λ _. R.chains;
          count = λ _. omega (arith, laid_length n m, ap length R.free_is, length-range_with_len n (m - n), c.2);
        })
    | inr c ↦ record {
      least = omega (arith, c.0);
      most = omega (arith, c.0);
      lawful = none_lawful n (laid n m) made_none;
      tally = sym (none_count n (laid n m) made_none);
      single = λ _. c.0;
      whole = λ h. absurd (omega (arith, h, laid_length n m, c.1));
      chains = λ h. absurd (omega (arith, h, laid_length n m, c.1));
      count = λ h. absurd (omega (arith, h, laid_length n m, c.1));
    }
  ]

  made_free : free_records (laid n m) (first_free n m) ≡ range_with_len n (m - n)
  made_free = elim made_cases [
    | inl c ↦ (laid_read n m c.0 c.2).free_is
    | inr c ↦ (let e : m - n ≡ 0 = omega arith in rw (e, c.1) refl)
  ]

  -- the records ss that the new book has in the place of rs
  module _ {ss : List Record} {free : ℕ} (es : ss ≡ laid n m ++ drop m rs) (ef : free ≡ first_free n m) where
    made_own : take m ss ≡ laid n m
    made_own = ap (take m) es ∙ take_at (laid n m) (drop m rs) m (laid_length n m)

    pub made_invariant : record { fits : m ≤ length ss; sound : Sound n (take m ss) free 0 }
    made_invariant = record {
      fits = omega (arith, ap length es, length-append (laid n m) (drop m rs), laid_length n m);
      sound = rw (made_own, ef) made_sound;
    }

    pub made_unlinked : (u v : ℕ) → chain_linked n (take m ss) u v ≡ false
    made_unlinked = rw made_own made_none

    pub made_spare : free_records (take m ss) free ≡ range_with_len n (m - n)
    made_spare = rw (made_own, ef) made_free
