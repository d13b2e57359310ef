-- What some records hold, and what one more or one less of them makes of that.
use Rattle.std.proofs.Common.{◌≡◌, ℕ, suc, ◌<◌, ◌≤◌, true, false, cond, ◌||◌, eqb, ltb, List, [], ◌∷◌, ◌++◌, Some, None, Option, refl, ◌∙◌, inl, inr, arith}
use Rattle.std.proofs.lemmas.Bool.Decides.{nat_tests}
use Rattle.std.proofs.lemmas.Bool.{ltb-true, ltb-false, eq-eqb, cases_eq, cases_Bool, or_left, or_parts}
use Rattle.books.proofs.Partners.{Lowest}
use Rattle.chain_book.specs.Meaning.{holds}
use Rattle.chain_book.specs.Order.{In, Ascend}
use Rattle.chain_book.specs.Steps.{lower, onward, first_partner}
use Rattle.chain_book.proofs.Runs.{in_right, whole, ascend_from}

holds_append : (pt : ℕ → ℕ) (v : ℕ) (xs ys : List ℕ) → holds pt v (xs ++ ys) ≡ (holds pt v xs || holds pt v ys)
holds_append pt v [] ys = refl
holds_append pt v (x ∷ xs) ys = grind (arith, nat_tests, holds_append pt v xs ys)

pub holds_same : (pt qt : ℕ → ℕ) (v : ℕ) (js : List ℕ) → ((j : ℕ) → In j js → qt j ≡ pt j) → holds qt v js ≡ holds pt v js
holds_same pt qt v [] same = refl
holds_same pt qt v (j ∷ js) same = grind (arith, nat_tests, same j (inl refl), holds_same pt qt v js (λ k h. same k (inr h)))

pub holds_none : (pt : ℕ → ℕ) (v : ℕ) (js : List ℕ) → ((j : ℕ) → In j js → pt j ≡ v → ⊥) → holds pt v js ≡ false
holds_none pt v [] none = refl
holds_none pt v (j ∷ js) none = grind (arith, nat_tests, holds_none pt v js (λ k h. none k (inr h)))

pub holds_not : (pt : ℕ → ℕ) (v : ℕ) (js : List ℕ) → holds pt v js ≡ false → (j : ℕ) → In j js → pt j ≡ v → ⊥
holds_not pt v [] f j h e = absurd h
holds_not pt v (k ∷ js) f j (inl q) e = grind (arith, nat_tests)
holds_not pt v (k ∷ js) f j (inr h) e = holds_not pt v js (or_parts (eqb (pt k) v) (holds pt v js) f).1 j h e

-- one more record, which holds w
pub holds_insert : (pt qt : ℕ → ℕ) (f w b : ℕ) (js : List ℕ) → qt f ≡ w → ((j : ℕ) → In j js → qt j ≡ pt j)
    → holds qt b (lower pt w js ++ f ∷ onward pt w js) ≡ cond (eqb b w) true (holds pt b js)
holds_insert pt qt f w b js is same =
    grind (arith, nat_tests, holds_append qt b (lower pt w js) (f ∷ onward pt w js), holds_append qt b (lower pt w js) (onward pt w js), whole pt w js, holds_same pt qt b js same)

-- one record less, which held w
pub holds_remove : (n : ℕ) (pt : ℕ → ℕ) (low g w b : ℕ) (xs ys : List ℕ) → Ascend n pt low (xs ++ g ∷ ys) → pt g ≡ w
    → holds pt b (xs ++ ys) ≡ cond (eqb b w) false (holds pt b (xs ++ g ∷ ys))
holds_remove n pt low g w b [] ys a is = elim (cases_eq b w) [
  | inl e ↦ grind (arith, nat_tests, holds_none pt b ys (λ j h q. omega (arith, q, e, is, ascend_from n pt (suc (pt g)) j ys a.2 h)))
  | inr ne ↦ grind (arith, nat_tests)
]
holds_remove n pt low g w b (x ∷ xs) ys a is =
    grind (arith, nat_tests, holds_remove n pt (suc (pt x)) g w b xs ys a.2 is, ascend_from n pt (suc (pt x)) g (xs ++ g ∷ ys) a.2 (in_right g xs (g ∷ ys) (inl refl)))

-- in an ascending chain a walk for w finds the lowest partner from w on
pub chain_lowest : (n : ℕ) (pt : ℕ → ℕ) (low w : ℕ) (js : List ℕ) → Ascend n pt low js → Lowest (λ v. holds pt v js) w (first_partner pt (onward pt w js))
chain_lowest n pt low w [] a = λ v l. refl
chain_lowest n pt low w (j ∷ js) a = elim (cases_Bool (ltb (pt j) w)) [
  | inl t ↦ rw t (past (ltb-true (pt j) w t) (first_partner pt (onward pt w js)) (chain_lowest n pt (suc (pt j)) w js a.2))
  | inr f ↦ rw f (
    ltb-false (pt j) w f,
    or_left (eqb (pt j) (pt j)) (holds pt (pt j) js) (eq-eqb (pt j) (pt j) refl),
    λ v l m. holds_none pt v (j ∷ js) (λ k h e. omega (arith, e, ascend_from n pt (pt j) k (j ∷ js) (omega arith, a.1, a.2) h)),
  )
]
  where
    skip : pt j < w → (v : ℕ) → w ≤ v → holds pt v (j ∷ js) ≡ holds pt v js
    skip lt v l = grind (arith, nat_tests)

    past : pt j < w → (r : Option ℕ) → Lowest (λ v. holds pt v js) w r → Lowest (λ v. holds pt v (j ∷ js)) w r
    past lt None h = λ v l. skip lt v l ∙ h v l
    past lt (Some x) h = (h.0, skip lt x h.0 ∙ h.1, λ v l m. skip lt v l ∙ h.2 v l m)
