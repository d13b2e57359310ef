-- The steps of a walk, and what comes after the record at which it stops.
use Rattle.std.proofs.Common.{◌≡◌, ℕ, ◌<◌, List, [], ◌∷◌, length, Some, None, refl, ap, arith}
use Rattle.chain_book.specs.declared.record.Record.{Record}
use Rattle.chain_book.specs.Records.{next_of, partner_of, follow, chain}
use Rattle.chain_book.specs.Order.{Run}
use Rattle.chain_book.specs.Steps.{Walkable, lower, onward, stop, first_partner}
use Rattle.chain_book.proofs.Runs.{Onward, run_after, step, whole}

-- a run that does not end at once begins with a record
run_within : (hi : ℕ) (next : ℕ → ℕ) (i : ℕ) (js : List ℕ) → Run 1 hi next i js → (i ≡ 0 → ⊥) → i < hi
run_within hi next i [] r ne = absurd (ne r)
run_within hi next i (j ∷ js) r ne = omega (arith, r.0, r.2)

run_none : (hi : ℕ) (next pt : ℕ → ℕ) (i : ℕ) (js : List ℕ) → Run 1 hi next i js → i ≡ 0 → None ≡ first_partner pt js
run_none hi next pt i [] r e = refl
run_none hi next pt i (j ∷ js) r e = absurd (omega (arith, r.0, r.1))

run_some : (hi : ℕ) (next pt : ℕ → ℕ) (i : ℕ) (js : List ℕ) → Run 1 hi next i js → (i ≡ 0 → ⊥) → Some (pt i) ≡ first_partner pt js
run_some hi next pt i [] r ne = absurd (ne r)
run_some hi next pt i (j ∷ js) r ne = ap (λ (x : ℕ). Some (pt x)) r.0

-- one step of a walk
pub walked : (rs : List Record) (i : ℕ) → (i ≡ 0 → ⊥) → Run 1 (length rs) (next_of rs) i (follow (length rs) (next_of rs) i) → Onward 1 (length rs) (next_of rs) i
walked rs i ne r = step 1 (length rs) (next_of rs) i (omega arith) ne r

-- A walk along u's chain for w, which stops at the record `at`.
module _ (rs : List Record) (u w : ℕ) (runs : Walkable rs u) {at : ℕ} (is : at ≡ stop rs u w) where
  -- the rest of the chain
  rest : Run 1 (length rs) (next_of rs) (next_of rs at) (onward (partner_of rs) w (chain rs u))
  rest = rw is
      (run_after 1 (length rs) (next_of rs) u (lower (partner_of rs) w (chain rs u)) (onward (partner_of rs) w (chain rs u))
      (rw (whole (partner_of rs) w (chain rs u)) runs))

  pub next_none : next_of rs at ≡ 0 → None ≡ first_partner (partner_of rs) (onward (partner_of rs) w (chain rs u))
  next_none = run_none (length rs) (next_of rs) (partner_of rs) (next_of rs at) (onward (partner_of rs) w (chain rs u)) rest

  pub next_within : (next_of rs at ≡ 0 → ⊥) → next_of rs at < length rs
  next_within = run_within (length rs) (next_of rs) (next_of rs at) (onward (partner_of rs) w (chain rs u)) rest

  pub next_some : (next_of rs at ≡ 0 → ⊥) → Some (partner_of rs (next_of rs at)) ≡ first_partner (partner_of rs) (onward (partner_of rs) w (chain rs u))
  next_some = run_some (length rs) (next_of rs) (partner_of rs) (next_of rs at) (onward (partner_of rs) w (chain rs u)) rest
