-- Sums, by which everything is counted.
use Rattle.std.specs.Prelude.{ℕ, zero, suc, ◌+◌, Bool, true, false}

-- the sum of f over the numbers below n
abbrev pub sum_to : (ℕ → ℕ) → ℕ → ℕ
sum_to f zero = 0
sum_to f (suc n) = sum_to f n + f n

-- the sum of c v u over the pairs u < v < n
abbrev pub pair_sum : (ℕ → ℕ → ℕ) → ℕ → ℕ
pair_sum c n = sum_to (λ v. sum_to (c v) v) n

-- 1 for a test that passes, 0 for one that fails
abbrev pub one : Bool → ℕ
one true = 1
one false = 0

-- the number, where the test passes; else 0
abbrev pub when : Bool → ℕ → ℕ
when true x = x
when false x = 0
