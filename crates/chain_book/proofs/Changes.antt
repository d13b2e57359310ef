-- One record goes into a chain, or out of one, while all other chains and the free records stay as they are.
use Rattle.std.proofs.Common.{◌≡◌, ℕ, suc, ◌<◌, ◌≤◌, cond, eqb, ltb, ◌⊎◌, List, [], ◌∷◌, ◌++◌, length, sym, refl, ap, ◌∙◌, inl, inr, arith}
use Rattle.std.proofs.lemmas.Bool.Decides.{nat_tests}
use Rattle.std.proofs.lemmas.Bool.{ltb-true, ltb-false, cases_Bool, cases_eq}
use Rattle.chain_book.specs.Records.{follow}
use Rattle.chain_book.specs.Order.{In, Distinct, Run, Ascend, Keeps}
use Rattle.chain_book.specs.Steps.{lower, onward, last_or}
use Rattle.chain_book.proofs.Runs.{in_left, in_right, in_cases, in_same, run_same, run_within, run_splice, run_cut, follow_run, whole, stop_cases, ascend_distinct, ascend_length, ascend_same, ascend_lower}

-- the partner w, which no record of js holds, goes in where it belongs
pub ascend_insert : (n : ℕ) (pt qt : ℕ → ℕ) (low f w : ℕ) (js : List ℕ)
    → low ≤ w → w < n → qt f ≡ w → ((j : ℕ) → In j js → pt j ≡ w → ⊥) → ((j : ℕ) → In j js → qt j ≡ pt j)
    → Ascend n pt low js → Ascend n qt low (lower pt w js ++ f ∷ onward pt w js)
ascend_insert n pt qt low f w [] l h is new same a = (omega arith, omega arith, tt)
ascend_insert n pt qt low f w (j ∷ js) l h is new same a =
    let e : qt j ≡ pt j = same j (inl refl) in
    let ne : pt j ≡ w → ⊥ = new j (inl refl) in
    elim (cases_Bool (ltb (pt j) w)) [
      | inl t ↦ (
          let lt : pt j < w = ltb-true (pt j) w t in
          rw t (omega (arith, a.0), omega (arith, a.1), ascend_insert n pt qt (suc (qt j)) f w js (omega arith) h is (λ k i. new k (inr i)) (λ k i. same k (inr i)) (rw e a.2)))
      | inr t ↦ (
          let ge : w ≤ pt j = ltb-false (pt j) w t in
          rw t (omega arith, omega arith, ascend_same n pt qt (suc (qt f)) (j ∷ js) same (omega arith, a.1, a.2)))
    ]

pub ascend_remove : (n : ℕ) (pt : ℕ → ℕ) (low g : ℕ) (xs ys : List ℕ) → Ascend n pt low (xs ++ g ∷ ys) → Ascend n pt low (xs ++ ys)
ascend_remove n pt low g [] ys a = ascend_lower n pt (suc (pt g)) low ys (omega (arith, a.0)) a.2
ascend_remove n pt low g (x ∷ xs) ys a = (a.0, a.1, ascend_remove n pt (suc (pt x)) g xs ys a.2)

-- P, with js in the place of u's list
abbrev pub upd : (ℕ → List ℕ) → ℕ → List ℕ → ℕ → List ℕ
upd P u js v = cond (eqb v u) js (P v)

pub upd_here : (P : ℕ → List ℕ) (u : ℕ) (js : List ℕ) → upd P u js u ≡ js
upd_here P u js = grind (arith, nat_tests)

pub upd_there : (P : ℕ → List ℕ) (u : ℕ) (js : List ℕ) (v : ℕ) → (v ≡ u → ⊥) → upd P u js v ≡ P v
upd_there P u js v ne = grind (arith, nat_tests)

-- what holds of u's new list and of each other's old one
upd_each : (Q : ℕ → List ℕ → Type 0) (P : ℕ → List ℕ) (u : ℕ) (js : List ℕ) (v : ℕ) → Q u js → ((v ≡ u → ⊥) → Q v (P v)) → Q v (upd P u js v)
upd_each Q P u js v here there = grind (arith, nat_tests)

-- what stands in v's list stands in the changed one too, if u's new list still has it
upd_still : (P : ℕ → List ℕ) (u : ℕ) (js : List ℕ) (v k : ℕ) → In k (P v) → ((v ≡ u) → In k js) → In k (upd P u js v)
upd_still P u js v k h here = grind (arith, nat_tests)

-- In records that are in order: the record at which a walk along u's chain stops is u's head or one of u's chain.
module _ {n m : ℕ} {nx pt : ℕ → ℕ} {free : ℕ} {P : ℕ → List ℕ} {F : List ℕ} (K : Keeps n m nx pt free P F) (u w : ℕ) (lu : u < n) where
  -- so it stands in no other chain,
  pub stop_other : (v : ℕ) → v < n → (v ≡ u → ⊥) → In (last_or u (lower pt w (P u))) (P v) → ⊥
  stop_other v lv ne h = elim (stop_cases u pt w (P u)) [
    | inl e ↦ omega (arith, e, (run_within n m nx (nx v) (last_or u (lower pt w (P u))) (P v) (K.runs v lv) h).0)
    | inr g ↦ ne (sym (K.apart u v (last_or u (lower pt w (P u))) lu lv g h))
  ]

  -- is not free,
  pub stop_free : In (last_or u (lower pt w (P u))) F → ⊥
  stop_free h = elim (stop_cases u pt w (P u)) [
    | inl e ↦ omega (arith, e, (run_within n m nx free (last_or u (lower pt w (P u))) F K.spare h).0)
    | inr g ↦ K.unused u (last_or u (lower pt w (P u))) lu g h
  ]

  -- is no other head,
  pub stop_head : (v : ℕ) → v < n → (v ≡ u → ⊥) → v ≡ last_or u (lower pt w (P u)) → ⊥
  stop_head v lv ne h = elim (stop_cases u pt w (P u)) [
    | inl e ↦ ne (h ∙ e)
    | inr g ↦ omega (arith, h, (run_within n m nx (nx u) (last_or u (lower pt w (P u))) (P u) (K.runs u lu) g).0)
  ]

  -- and is one of the records
  pub stop_within : last_or u (lower pt w (P u)) < m
  stop_within = elim (stop_cases u pt w (P u)) [
    | inl e ↦ omega (arith, e, K.heads)
    | inr g ↦ (run_within n m nx (nx u) (last_or u (lower pt w (P u))) (P u) (K.runs u lu) g).1
  ]

  -- the head and the records of its chain are all different
  pub chain_distinct : Distinct (u ∷ P u)
  chain_distinct = ((λ h. omega (arith, (run_within n m nx (nx u) u (P u) (K.runs u lu) h).0)), ascend_distinct n pt 0 (P u) (K.ascends u lu))

-- the first free record f goes into u's chain, and holds w there
pub keeps_insert : {n m : ℕ} {nx ny pt qt : ℕ → ℕ} {free : ℕ} {P : ℕ → List ℕ} {f : ℕ} {F : List ℕ} (u w : ℕ)
    → Keeps n m nx pt free P (f ∷ F) → u < n → w < n → ((j : ℕ) → In j (P u) → pt j ≡ w → ⊥)
    → ny (last_or u (lower pt w (P u))) ≡ f → ny f ≡ nx (last_or u (lower pt w (P u)))
    → ((j : ℕ) → (j ≡ last_or u (lower pt w (P u)) → ⊥) → (j ≡ f → ⊥) → ny j ≡ nx j)
    → qt f ≡ w → ((j : ℕ) → (j ≡ f → ⊥) → qt j ≡ pt j)
    → Keeps n m ny qt (nx f) (upd P u (lower pt w (P u) ++ f ∷ onward pt w (P u))) F
keeps_insert {n} {m} {nx} {ny} {pt} {qt} {free} {P} {f} {F} u w K lu lw new here on same is else =
    let xs : List ℕ = lower pt w (P u) in
    let ys : List ℕ = onward pt w (P u) in
    let js : List ℕ = lower pt w (P u) ++ f ∷ onward pt w (P u) in
    let eq : P u ≡ lower pt w (P u) ++ onward pt w (P u) = sym (whole pt w (P u)) in
    let out : (v : ℕ) → v < n → In f (P v) → ⊥ = λ v lv h. K.unused v f lv h (inl refl) in
    let d : Distinct (u ∷ lower pt w (P u) ++ onward pt w (P u)) = rw whole (chain_distinct K u w lu) in
    let far : In f (u ∷ lower pt w (P u) ++ onward pt w (P u)) → ⊥ = λ h. grind (arith, eq) in
    let parts : (k : ℕ) → In k js → (k ≡ f) ⊎ In k (P u) = λ k h. rw eq (grind (arith, in_cases k xs (f ∷ ys) h, in_left k xs ys, in_right k xs ys)) in
    let old : (v k : ℕ) → In k (upd P u js v) → ((k ≡ f) × (v ≡ u)) ⊎ In k (P v) = λ v k h. grind (arith, nat_tests, parts k) in
    record {
      some = K.some;
      heads = K.heads;
      runs = λ v lv.
          upd_each (λ x zs. Run n m ny (ny x) zs) P u js v
          (run_splice n m nx ny f u xs ys d far K.spare.1 K.spare.2 here on same (rw (← eq) (K.runs u lu)))
          (λ ne.
          let e : ny v ≡ nx v = same v (stop_head K u w lu v lv ne) (λ q. omega (arith, K.spare.1)) in
          rw e
          (run_same n m nx ny (nx v) (P v) (λ j h. same j (λ q. stop_other K u w lu v lv ne (in_same j _ (P v) q h)) (λ q. out v lv (in_same j f (P v) q h))) (K.runs v lv)));
      ascends = λ v lv.
          upd_each (λ x zs. Ascend n qt 0 zs) P u js v
          (ascend_insert n pt qt 0 f w (P u) (omega arith) lw is new (λ j h. else j (λ q. out u lu (in_same j f (P u) q h))) (K.ascends u lu))
          (λ ne. ascend_same n pt qt 0 (P v) (λ j h. else j (λ q. out v lv (in_same j f (P v) q h))) (K.ascends v lv));
      spare = run_same n m nx ny (nx f) F (λ j h. same j (λ q. stop_free K u w lu (inr (in_same j _ F q h))) (λ q. K.once.0 (in_same j f F q h))) K.spare.3;
      once = K.once.1;
      apart = λ a b k la lb ha hb. grind (arith, old a k ha, old b k hb, out a la, out b lb, K.apart a b k la lb);
      unused = λ a k la ha hF. grind (arith, old a k ha);
      none_lost = λ k lo hi no.
          let still : In k (P u) → In k js = λ h. grind (arith, in_cases k xs ys (rw (← eq) h), in_left k xs (f ∷ ys), in_right k xs (f ∷ ys)) in
          grind (arith, no u lu, K.none_lost k lo hi (λ v lv h. no v lv (upd_still P u js v k h (λ q. still (rw (← q) h)))), upd_here P u js, in_right k xs (f ∷ ys));
    }

-- the record g, where w belongs in u's chain, goes out of it and to the front of the free ones
pub keeps_remove : {n m : ℕ} {nx ny pt qt : ℕ → ℕ} {free : ℕ} {P : ℕ → List ℕ} {F : List ℕ} (u w g : ℕ) (ys : List ℕ)
    → Keeps n m nx pt free P F → u < n → onward pt w (P u) ≡ g ∷ ys
    → ny (last_or u (lower pt w (P u))) ≡ nx g → ny g ≡ free
    → ((j : ℕ) → (j ≡ last_or u (lower pt w (P u)) → ⊥) → (j ≡ g → ⊥) → ny j ≡ nx j)
    → ((j : ℕ) → qt j ≡ pt j)
    → Keeps n m ny qt g (upd P u (lower pt w (P u) ++ ys)) (g ∷ F)
keeps_remove {n} {m} {nx} {ny} {pt} {qt} {free} {P} {F} u w g ys K lu split here on same else =
    let xs : List ℕ = lower pt w (P u) in
    let js : List ℕ = lower pt w (P u) ++ ys in
    let eq : P u ≡ lower pt w (P u) ++ g ∷ ys = sym (whole pt w (P u)) ∙ ap (λ (zs : List ℕ). lower pt w (P u) ++ zs) split in
    let has : In g (P u) = rw eq (in_right g xs (g ∷ ys) (inl refl)) in
    let d : Distinct (u ∷ lower pt w (P u) ++ g ∷ ys) = rw (← eq) (chain_distinct K u w lu) in
    let other : (v : ℕ) → v < n → (v ≡ u → ⊥) → In g (P v) → ⊥ = λ v lv ne h. ne (sym (K.apart u v g lu lv has h)) in
    let parts : (k : ℕ) → In k js → In k (P u) = λ k h. rw eq (grind (arith, in_cases k xs ys h, in_left k xs (g ∷ ys), in_right k xs (g ∷ ys))) in
    let old : (v k : ℕ) → In k (upd P u js v) → In k (P v) = λ v k h. grind (arith, nat_tests, parts k) in
    let out : (v : ℕ) → v < n → In g (upd P u js v) → ⊥ = λ v lv h. grind (arith, nat_tests, gone xs ys g d.1, other v lv) in
    let within : (n ≤ g) × (g < m) = run_within n m nx (nx u) g (P u) (K.runs u lu) has in
    record {
      some = K.some;
      heads = K.heads;
      runs = λ v lv.
          upd_each (λ x zs. Run n m ny (ny x) zs) P u js v
          (run_cut n m nx ny g u xs ys d here same (rw (← eq) (K.runs u lu)))
          (λ ne.
          let e : ny v ≡ nx v = same v (stop_head K u w lu v lv ne) (λ q. omega arith) in
          rw e
          (run_same n m nx ny (nx v) (P v) (λ j h. same j (λ q. stop_other K u w lu v lv ne (in_same j _ (P v) q h)) (λ q. other v lv ne (in_same j g (P v) q h))) (K.runs v lv)));
      ascends = λ v lv.
          upd_each (λ x zs. Ascend n qt 0 zs) P u js v
          (ascend_same n pt qt 0 js (λ j h. else j) (ascend_remove n pt 0 g xs ys (rw (← eq) (K.ascends u lu))))
          (λ ne. ascend_same n pt qt 0 (P v) (λ j h. else j) (K.ascends v lv));
      spare = (
        refl,
        within.0,
        within.1,
        rw on
            (run_same n m nx ny free F (λ j h. same j (λ q. stop_free K u w lu (in_same j _ F q h)) (λ q. K.unused u g lu has (in_same j g F q h))) K.spare),
      );
      once = ((λ h. K.unused u g lu has h), K.once);
      apart = λ a b k la lb ha hb. K.apart a b k la lb (old a k ha) (old b k hb);
      unused = λ a k la ha hF. grind (arith, old a k ha, out a la);
      none_lost = λ k lo hi no. elim (cases_eq k g) [
        | inl e ↦ inl e
        | inr ne ↦ inr (K.none_lost k lo hi (λ v lv h. no v lv (upd_still P u js v k h (λ q.
            grind (arith, ne, in_cases k xs (g ∷ ys) (rw (← ap P q ∙ eq) h), in_left k xs ys, in_right k xs ys)))))
      ];
    }
  where
    gone : (xs ys : List ℕ) (g : ℕ) → Distinct (xs ++ g ∷ ys) → In g (xs ++ ys) → ⊥
    gone [] ys g d h = d.0 h
    gone (x ∷ xs) ys g d (inl e) = d.0 (rw (← e) (in_right g xs (g ∷ ys) (inl refl)))
    gone (x ∷ xs) ys g d (inr h) = gone xs ys g d.1 h

-- the lists that are named are those that are met, if there are enough steps for the free ones
pub keeps_met : {n m : ℕ} {nx pt : ℕ → ℕ} {free : ℕ} {P : ℕ → List ℕ} {F : List ℕ} → Keeps n m nx pt free P F → (u : ℕ) → u < n → follow m nx (nx u) ≡ P u
keeps_met {n} {m} {nx} {pt} {free} {P} {F} K u lu =
    follow_run n m nx (nx u) (P u) m K.some (K.runs u lu) (omega (arith, ascend_length n pt 0 (P u) (omega arith) (K.ascends u lu), K.heads))

pub keeps_followed : {n m : ℕ} {nx pt : ℕ → ℕ} {free : ℕ} {P : ℕ → List ℕ} {F : List ℕ} → Keeps n m nx pt free P F → length F ≤ m
    → Keeps n m nx pt free (λ u. follow m nx (nx u)) (follow m nx free)
keeps_followed {n} {m} {nx} {pt} {free} {P} {F} K l =
    let e : (u : ℕ) → u < n → follow m nx (nx u) ≡ P u = keeps_met K in
    let q : follow m nx free ≡ F = follow_run n m nx free F m K.some K.spare l in
    record {
      some = K.some;
      heads = K.heads;
      runs = λ u lu. rw (e u lu) (K.runs u lu);
      ascends = λ u lu. rw (e u lu) (K.ascends u lu);
      spare = rw q K.spare;
      once = rw q K.once;
      apart = λ u v k lu lv hu hv. K.apart u v k lu lv (rw (← e u lu) hu) (rw (← e v lv) hv);
      unused = λ u k lu hu hF. K.unused u k lu (rw (← e u lu) hu) (rw (← q) hF);
      none_lost = λ k lo hi no. rw q (K.none_lost k lo hi (λ u lu h. no u lu (rw (e u lu) h)));
    }
