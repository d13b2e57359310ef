-- Tests of every number below a bound, and of some number below it.
use Rattle.std.proofs.Common.{◌≡◌, ℕ, zero, suc, ◌<◌, Bool, true, false, refl, arith}
use Rattle.std.proofs.lemmas.Bool.Decides.{nat_tests}
use Rattle.closed_book.specs.Lists.{every}
use Rattle.closed_book.specs.Meaning.{any}

pub every_at : (t : ℕ → Bool) (m k : ℕ) → every t m ≡ true → k < m → t k ≡ true
every_at t zero k e l = grind arith
every_at t (suc m) k e l = grind (arith, nat_tests, every_at t m k)

pub every_not : (t : ℕ → Bool) (m k : ℕ) → k < m → t k ≡ false → every t m ≡ false
every_not t zero k l h = grind arith
every_not t (suc m) k l h = grind (arith, nat_tests, every_not t m k)

pub any_at : (t : ℕ → Bool) (m k : ℕ) → k < m → t k ≡ true → any t m ≡ true
any_at t zero k l h = grind arith
any_at t (suc m) k l h = grind (arith, nat_tests, any_at t m k)

pub any_none : (t : ℕ → Bool) (m : ℕ) → ((k : ℕ) → k < m → t k ≡ false) → any t m ≡ false
any_none t zero h = refl
any_none t (suc m) h = grind (arith, nat_tests, any_none t m)
