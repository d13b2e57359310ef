-- Records are in order in at most one way. That is asked of a fact that a struct keeps, and nothing else rests on it; it
-- stands here, and not among the proofs, since the struct's field cites it.
use Rattle.std.proofs.Common.{◌≡◌, ℕ, suc, List, [], ◌∷◌, ap, inl, inr}
use Rattle.std.proofs.Props.{props}
use Rattle.books.specs.Graphs.{Graph, Lawful}
use Rattle.chain_book.specs.declared.record.Record.{Record}
use Rattle.chain_book.specs.Order.{In, Distinct, Run, Ascend, Keeps, Sound}

run_once : (lo hi : ℕ) (next : ℕ → ℕ) (i : ℕ) (js : List ℕ) → IsProp (Run lo hi next i js)
run_once lo hi next i [] = hlevel props
run_once lo hi next i (j ∷ js) = hlevel (props, run_once lo hi next (next j) js)

ascend_once : (n : ℕ) (partner : ℕ → ℕ) (low : ℕ) (js : List ℕ) → IsProp (Ascend n partner low js)
ascend_once n partner low [] = hlevel props
ascend_once n partner low (j ∷ js) = hlevel (props, ascend_once n partner (suc (partner j)) js)

distinct_once : (js : List ℕ) → IsProp (Distinct js)
distinct_once [] = hlevel props
distinct_once (j ∷ js) = hlevel (props, distinct_once js)

in_once : (k : ℕ) (js : List ℕ) → Distinct js → IsProp (In k js)
in_once k [] d x y = absurd x
in_once k (j ∷ js) d (inl x) (inl y) = let same : IsProp (k ≡ j) = hlevel props in ap (λ (e : k ≡ j). inl e) (same x y)
in_once k (j ∷ js) d (inl x) (inr y) = absurd (d.0 (rw (← x) y))
in_once k (j ∷ js) d (inr x) (inl y) = absurd (d.0 (rw (← y) x))
in_once k (j ∷ js) d (inr x) (inr y) = ap (λ (h : In k js). inr h) (in_once k js d.1 x y)

keeps_once : (n m : ℕ) (next partner : ℕ → ℕ) (free : ℕ) (P : ℕ → List ℕ) (F : List ℕ) → IsProp (Keeps n m next partner free P F)
keeps_once n m next partner free P F = hlevel (props, run_once, ascend_once, distinct_once, in_once)

-- and so are the laws of a graph
pub lawful_once : (g : Graph) → IsProp (Lawful g)
lawful_once g = hlevel props

pub sound_once : {n : ℕ} {rs : List Record} {free links : ℕ} → IsProp (Sound n rs free links)
sound_once = hlevel (props, lawful_once, keeps_once)
