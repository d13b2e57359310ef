-- Tolerances p/q, and the height that a tolerance gives a number of cards.
use Rattle.std.specs.Prelude.{ℕ, suc, ◌+◌, ◌*◌, ◌<◌, ◌≤◌, cond, ◌&&◌, Some, None, Option, nat_le}
use Rattle.books.specs.declared.refusal.Refusal.{Refusal}
use Rattle.books.specs.declared.refusal.Refusal.TheVariants.{BadTolerance}

-- the rule of every tolerance
abbrev pub Tolerated : ℕ → ℕ → Type 0
Tolerated p q = (1 ≤ p) × (p ≤ q) × (q ≤ 100)

-- why p/q is no tolerance, if it is none
abbrev pub tolerance_refusal : ℕ → ℕ → Option Refusal
tolerance_refusal p q = cond (nat_le 1 p && (nat_le p q && nat_le q 100)) None (Some BadTolerance)

-- d is the greatest number with d(q+p) < c·q
abbrev pub Next : ℕ → ℕ → ℕ → ℕ → Type 0
Next p q c d = (d * (q + p) < c * q) × ((x : ℕ) → x * (q + p) < c * q → x ≤ d)

-- so many times c is replaced by the next number until 0 stands
pub data Height (p q : ℕ) : ℕ → ℕ → Type 0 where
  stands : Height p q 0 0
  falls : {c d k : ℕ} → 0 < c → Next p q c d → Height p q d k → Height p q c (suc k)
