-- Runs of records from one to the next, up to the end mark.
use Rattle.std.proofs.Common.{◌≡◌, ℕ, zero, suc, ◌+◌, ◌<◌, ◌≤◌, eqb, ◌⊎◌, List, [], ◌∷◌, ◌++◌, length, sym, refl, ap, ◌∙◌, subst, inl, inr, ⊎_elim, arith}
use Rattle.std.proofs.lemmas.Bool.Decides.{nat_tests}
use Rattle.std.proofs.lemmas.Bool.{ne_eqb, cond-false}
use Rattle.chain_book.specs.Records.{follow}
use Rattle.chain_book.specs.Order.{In, Distinct, Run, Ascend}
use Rattle.chain_book.specs.Steps.{lower, onward, last_or}

pub in_left : (k : ℕ) (xs ys : List ℕ) → In k xs → In k (xs ++ ys)
in_left k [] ys h = absurd h
in_left k (a ∷ xs) ys (inl e) = inl e
in_left k (a ∷ xs) ys (inr h) = inr (in_left k xs ys h)

pub in_right : (k : ℕ) (xs ys : List ℕ) → In k ys → In k (xs ++ ys)
in_right k [] ys h = h
in_right k (a ∷ xs) ys h = inr (in_right k xs ys h)

pub in_cases : (k : ℕ) (xs ys : List ℕ) → In k (xs ++ ys) → In k xs ⊎ In k ys
in_cases k [] ys h = inr h
in_cases k (a ∷ xs) ys (inl e) = inl (inl e)
in_cases k (a ∷ xs) ys (inr h) = ⊎_elim (λ x. inl (inr x)) (λ x. inr x) (in_cases k xs ys h)

pub in_same : (k l : ℕ) (js : List ℕ) → k ≡ l → In k js → In l js
in_same k l js e h = grind (arith, nat_tests)

pub last_in : (u : ℕ) (xs : List ℕ) → In (last_or u xs) (u ∷ xs)
last_in u [] = inl refl
last_in u (a ∷ xs) = inr (last_in a xs)

-- a run none of whose records points elsewhere than before is still one
pub run_same : (lo hi : ℕ) (nx ny : ℕ → ℕ) (i : ℕ) (js : List ℕ) → ((j : ℕ) → In j js → ny j ≡ nx j) → Run lo hi nx i js → Run lo hi ny i js
run_same lo hi nx ny i [] same r = r
run_same lo hi nx ny i (j ∷ js) same r = (
  r.0,
  r.1,
  r.2,
  rw (same j (inl refl)) (run_same lo hi nx ny (nx j) js (λ k h. same k (inr h)) r.3),
)

-- the records of a run may lie further apart
pub run_wider : (lo hi low : ℕ) (next : ℕ → ℕ) (i : ℕ) (js : List ℕ) → low ≤ lo → Run lo hi next i js → Run low hi next i js
run_wider lo hi low next i [] l r = r
run_wider lo hi low next i (j ∷ js) l r = (r.0, omega (arith, r.1), r.2, run_wider lo hi low next (next j) js l r.3)

pub run_within : (lo hi : ℕ) (next : ℕ → ℕ) (i k : ℕ) (js : List ℕ) → Run lo hi next i js → In k js → (lo ≤ k) × (k < hi)
run_within lo hi next i k [] r h = absurd h
run_within lo hi next i k (j ∷ js) r (inl e) = (omega (arith, r.1), omega (arith, r.2))
run_within lo hi next i k (j ∷ js) r (inr h) = run_within lo hi next (next j) k js r.3 h

-- what comes after the first of two parts of a run is the second
pub run_after : (lo hi : ℕ) (next : ℕ → ℕ) (u : ℕ) (xs ys : List ℕ) → Run lo hi next (next u) (xs ++ ys) → Run lo hi next (next (last_or u xs)) ys
run_after lo hi next u [] ys r = r
run_after lo hi next u (x ∷ xs) ys r = run_after lo hi next x xs ys r.3

-- the record f goes in after the last of xs, or after u
pub run_splice : (lo hi : ℕ) (nx ny : ℕ → ℕ) (f u : ℕ) (xs ys : List ℕ)
    → Distinct (u ∷ xs ++ ys) → (In f (u ∷ xs ++ ys) → ⊥) → lo ≤ f → f < hi
    → ny (last_or u xs) ≡ f → ny f ≡ nx (last_or u xs)
    → ((j : ℕ) → (j ≡ last_or u xs → ⊥) → (j ≡ f → ⊥) → ny j ≡ nx j)
    → Run lo hi nx (nx u) (xs ++ ys) → Run lo hi ny (ny u) (xs ++ f ∷ ys)
run_splice lo hi nx ny f u [] ys d out l h here on same r = (
  here,
  l,
  h,
  rw on
      (run_same lo hi nx ny (nx u) ys (λ j i. same j (λ e. d.0 (in_same j u ys e i)) (λ e. out (inr (in_same j f ys e i)))) r),
)
run_splice lo hi nx ny f u (a ∷ xs) ys d out l h here on same r = (
  same u (λ e. d.0 (in_same (last_or a xs) u (a ∷ xs ++ ys) (sym e) (in_left (last_or a xs) (a ∷ xs) ys (last_in a xs)))) (λ e. out (inl (sym e))) ∙ r.0,
  r.1,
  r.2,
  run_splice lo hi nx ny f a xs ys d.1 (λ i. out (inr i)) l h here on same r.3,
)

-- the record g, which stands after the last of xs or after u, goes out
pub run_cut : (lo hi : ℕ) (nx ny : ℕ → ℕ) (g u : ℕ) (xs ys : List ℕ)
    → Distinct (u ∷ xs ++ g ∷ ys)
    → ny (last_or u xs) ≡ nx g
    → ((j : ℕ) → (j ≡ last_or u xs → ⊥) → (j ≡ g → ⊥) → ny j ≡ nx j)
    → Run lo hi nx (nx u) (xs ++ g ∷ ys) → Run lo hi ny (ny u) (xs ++ ys)
run_cut lo hi nx ny g u [] ys d here same r =
    rw here
    (run_same lo hi nx ny (nx g) ys (λ j i. same j (λ e. d.0 (inr (in_same j u ys e i))) (λ e. d.1.0 (in_same j g ys e i))) r.3)
run_cut lo hi nx ny g u (a ∷ xs) ys d here same r = (
  same u (λ e. d.0 (in_same (last_or a xs) u (a ∷ xs ++ g ∷ ys) (sym e) (in_left (last_or a xs) (a ∷ xs) (g ∷ ys) (last_in a xs))))
      (λ e. d.0 (inr (in_same g u (xs ++ g ∷ ys) (sym e) (in_right g xs (g ∷ ys) (inl refl))))) ∙ r.0,
  r.1,
  r.2,
  run_cut lo hi nx ny g a xs ys d.1 here same r.3,
)

-- following the records finds the run, if it may take enough steps
pub follow_run : (lo hi : ℕ) (next : ℕ → ℕ) (i : ℕ) (js : List ℕ) (k : ℕ) → 1 ≤ lo → Run lo hi next i js → length js ≤ k → follow k next i ≡ js
follow_run lo hi next i [] zero pos r l = refl
follow_run lo hi next i [] (suc k) pos r l = grind (arith, nat_tests)
follow_run lo hi next i (j ∷ js) zero pos r l = absurd (omega arith)
follow_run lo hi next i (j ∷ js) (suc k) pos r l = grind (arith, nat_tests, follow_run lo hi next (next j) js k pos r.3 (omega arith))

pub follow_length : (k : ℕ) (next : ℕ → ℕ) (i : ℕ) → length (follow k next i) ≤ k
follow_length zero next i = omega arith
follow_length (suc k) next i = grind (arith, nat_tests, follow_length k next (next i))

-- one step along a run
pub record Onward (lo hi : ℕ) (next : ℕ → ℕ) (i : ℕ) : Type 0 where
  pub first : follow hi next i ≡ i ∷ follow hi next (next i)
  pub runs : Run lo hi next (next i) (follow hi next (next i))
  pub low : lo ≤ i
  pub high : i < hi

pub step : (lo hi : ℕ) (next : ℕ → ℕ) (i : ℕ) → 1 ≤ lo → (i ≡ 0 → ⊥) → Run lo hi next i (follow hi next i) → Onward lo hi next i
step lo zero next i pos ne r = absurd (ne r)
step lo (suc k) next i pos ne r =
    let e : follow (suc k) next i ≡ i ∷ follow k next (next i) = cond-false (eqb i 0) [] (i ∷ follow k next (next i)) (ne_eqb i 0 ne) in
    let q : Run lo (suc k) next i (i ∷ follow k next (next i)) = subst (λ (zs : List ℕ). Run lo (suc k) next i zs) e r in
    let s : follow (suc k) next (next i) ≡ follow k next (next i) =
    follow_run lo (suc k) next (next i) (follow k next (next i)) (suc k) pos q.3 (omega (arith, follow_length k next (next i))) in
    record {
      first = e ∙ ap (λ (zs : List ℕ). i ∷ zs) (sym s);
      runs = rw s q.3;
      low = q.1;
      high = q.2;
    }

-- the walk splits the chain
pub whole : (pt : ℕ → ℕ) (w : ℕ) (js : List ℕ) → lower pt w js ++ onward pt w js ≡ js
whole pt w [] = refl
whole pt w (j ∷ js) = grind (arith, nat_tests, whole pt w js)

-- the record at which the walk stops is the head or one of the chain
pub stop_cases : (u : ℕ) (pt : ℕ → ℕ) (w : ℕ) (js : List ℕ) → (last_or u (lower pt w js) ≡ u) ⊎ In (last_or u (lower pt w js)) js
stop_cases u pt w js = elim (last_in u (lower pt w js)) [
  | inl e ↦ inl e
  | inr h ↦ inr (subst (λ (zs : List ℕ). In (last_or u (lower pt w js)) zs) (whole pt w js) (in_left (last_or u (lower pt w js)) (lower pt w js) (onward pt w js) h))
]

-- ascending partners keep the records apart, and there are at most so many
pub ascend_from : (n : ℕ) (pt : ℕ → ℕ) (low k : ℕ) (js : List ℕ) → Ascend n pt low js → In k js → low ≤ pt k
ascend_from n pt low k [] a h = absurd h
ascend_from n pt low k (j ∷ js) a (inl e) = omega (arith, a.0, ap pt e)
ascend_from n pt low k (j ∷ js) a (inr h) = omega (arith, a.0, ascend_from n pt (suc (pt j)) k js a.2 h)

pub ascend_distinct : (n : ℕ) (pt : ℕ → ℕ) (low : ℕ) (js : List ℕ) → Ascend n pt low js → Distinct js
ascend_distinct n pt low [] a = tt
ascend_distinct n pt low (j ∷ js) a = ((λ h. omega (arith, ascend_from n pt (suc (pt j)) j js a.2 h)), ascend_distinct n pt (suc (pt j)) js a.2)

pub ascend_length : (n : ℕ) (pt : ℕ → ℕ) (low : ℕ) (js : List ℕ) → low ≤ n → Ascend n pt low js → length js + low ≤ n
ascend_length n pt low [] l a = omega arith
ascend_length n pt low (j ∷ js) l a = omega (arith, a.0, ascend_length n pt (suc (pt j)) js a.1 a.2)

pub ascend_same : (n : ℕ) (pt qt : ℕ → ℕ) (low : ℕ) (js : List ℕ) → ((j : ℕ) → In j js → qt j ≡ pt j) → Ascend n pt low js → Ascend n qt low js
ascend_same n pt qt low [] same a = tt
ascend_same n pt qt low (j ∷ js) same a =
    let e : qt j ≡ pt j = same j (inl refl) in
    (omega (arith, a.0), omega (arith, a.1), ascend_same n pt qt (suc (qt j)) js (λ k h. same k (inr h)) (rw e a.2))

pub ascend_lower : (n : ℕ) (pt : ℕ → ℕ) (low less : ℕ) (js : List ℕ) → less ≤ low → Ascend n pt low js → Ascend n pt less js
ascend_lower n pt low less [] l a = tt
ascend_lower n pt low less (j ∷ js) l a = (omega (arith, a.0), a.1, a.2)
