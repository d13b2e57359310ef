-- The order of two pairs, and of the arrays that the code compares.
use Rattle.std.proofs.Common.{◌≡◌, ℕ, true, false, nat_cmp, List, [], ◌∷◌, arith}
use Rattle.std.specs.declared.cmp.Ordering.TheVariants.{Less, Equal, Greater}
use Rattle.std.specs.Ordering.{is_lt}
use Rattle.std.specs.Cmp.Lexicographic.{slice_cmp}
use Rattle.std.proofs.lemmas.Bool.Decides.{nat_tests}
use Rattle.closed_book.specs.Lists.{before}
use Rattle.closed_book.specs.Meaning.{same}

-- a pair as an array
abbrev pub array : ℕ × ℕ → List ℕ
array p = p.0 ∷ p.1 ∷ []

pub before_other : (p q : ℕ × ℕ) → before p q ≡ true → same p q ≡ false
before_other p q h = grind (arith, nat_tests)

pub before_not_less : (p q : ℕ × ℕ) → before p q ≡ true → is_lt (slice_cmp nat_cmp (array q) (array p)) ≡ false
before_not_less p q h = grind (arith, nat_tests)

pub less_other : (p q : ℕ × ℕ) → slice_cmp nat_cmp (array p) (array q) ≡ Less → same p q ≡ false
less_other p q h = grind (arith, nat_tests)

pub greater_other : (p q : ℕ × ℕ) → slice_cmp nat_cmp (array p) (array q) ≡ Greater → same p q ≡ false
greater_other p q h = grind (arith, nat_tests)

pub equal_same : (p q : ℕ × ℕ) → slice_cmp nat_cmp (array p) (array q) ≡ Equal → same p q ≡ true
equal_same p q h = grind (arith, nat_tests)
