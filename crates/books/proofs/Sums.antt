-- Sums over the numbers below n, and over the pairs below n.
use Rattle.std.proofs.Common.{◌≡◌, ℕ, zero, suc, ◌+◌, ◌-◌, ◌*◌, ◌/◌, ◌<◌, ◌≤◌, Bool, true, false, sym, refl, ap, inl, inr, zero-le, suc-mul, mul-suc, add-one, arith}
use native.Mathlib.Nat.{mul-div_left}
use Rattle.std.proofs.lemmas.Bool.{cases_eq}
use Rattle.books.specs.Sums.{sum_to, pair_sum, one}

pub sum_more : (f : ℕ → ℕ) (n : ℕ) → sum_to f (n + 1) ≡ sum_to f n + f n
sum_more f n = rw (add-one n)

pub sum_le : (f h : ℕ → ℕ) (n : ℕ) → ((i : ℕ) → i < n → f i ≤ h i) → sum_to f n ≤ sum_to h n
sum_le f h zero c = zero-le
sum_le f h (suc n) c = omega (arith, sum_le f h n (λ i l. c i (omega arith)), c n (omega arith))

pub sum_eq : (f h : ℕ → ℕ) (n : ℕ) → ((i : ℕ) → i < n → f i ≡ h i) → sum_to f n ≡ sum_to h n
sum_eq f h zero c = refl
sum_eq f h (suc n) c = omega (arith, sum_eq f h n (λ i l. c i (omega arith)), c n (omega arith))

pub sum_add : (f h : ℕ → ℕ) (n : ℕ) → sum_to (λ i. f i + h i) n ≡ sum_to f n + sum_to h n
sum_add f h zero = refl
sum_add f h (suc n) = omega (arith, sum_add f h n)

pub sum_mul : (f : ℕ → ℕ) (m n : ℕ) → sum_to (λ i. f i * m) n ≡ sum_to f n * m
sum_mul f m zero = omega arith
sum_mul f m (suc n) = omega (arith, sum_mul f m n)

pub sum_const : (c n : ℕ) → sum_to (λ _. c) n ≡ n * c
sum_const c zero = omega arith
sum_const c (suc n) = omega (arith, sum_const c n)

-- what each term is at most, n terms are at most n times
pub sum_most : (f : ℕ → ℕ) (c n : ℕ) → ((i : ℕ) → i < n → f i ≤ c) → sum_to f n ≤ n * c
sum_most f c n h = omega (arith, sum_le f (λ _. c) n h, sum_const c n)

pub sum_none : (f : ℕ → ℕ) (n : ℕ) → ((i : ℕ) → i < n → f i ≡ 0) → sum_to f n ≡ 0
sum_none f n h = omega (arith, sum_most f 0 n (λ i l. omega (arith, h i l)))

pub sum_at : (f : ℕ → ℕ) (n i : ℕ) → i < n → f i ≤ sum_to f n
sum_at f zero i h = omega arith
sum_at f (suc n) i h = elim (cases_eq i n) [
  | inl e ↦ omega (arith, ap f e)
  | inr e ↦ omega (arith, sum_at f n i (omega arith))
]

pub sum_lt : (f h : ℕ → ℕ) (n i : ℕ) → i < n → ((j : ℕ) → j < n → f j ≤ h j) → f i < h i → sum_to f n < sum_to h n
sum_lt f h zero i l c s = omega arith
sum_lt f h (suc n) i l c s = elim (cases_eq i n) [
  | inl e ↦ omega (arith, ap f e, ap h e, sum_le f h n (λ j k. c j (omega arith)))
  | inr e ↦ omega (arith, sum_lt f h n i (omega arith) (λ j k. c j (omega arith)) s, c n (omega arith))
]

-- two sums that differ at one place
pub sum_point : (f h : ℕ → ℕ) (n i d : ℕ) → i < n → f i ≡ h i + d → ((j : ℕ) → j < n → (j ≡ i → ⊥) → f j ≡ h j) → sum_to f n ≡ sum_to h n + d
sum_point f h zero i d l e c = absurd (omega arith)
sum_point f h (suc n) i d l e c = elim (cases_eq i n) [
  | inl z ↦ omega (arith, e, ap f z, ap h z, sum_eq f h n (λ j k. c j (omega arith) (λ x. omega arith)))
  | inr z ↦ omega (arith, sum_point f h n i d (omega arith) e (λ j k x. c j (omega arith) x), c n (omega arith) (λ x. z (sym x)))
]

-- terms that are 0 from a to b add nothing
pub sum_skip : (f : ℕ → ℕ) (a b : ℕ) → a ≤ b → ((i : ℕ) → a ≤ i → i < b → f i ≡ 0) → sum_to f b ≡ sum_to f a
sum_skip f a zero l h = let e : 0 ≡ a = omega arith in ap (sum_to f) e
sum_skip f a (suc b) l h = elim (cases_eq a (suc b)) [
  | inl e ↦ ap (sum_to f) (sym e)
  | inr n ↦ omega (arith, sum_skip f a b (omega arith) (λ i x y. h i x (omega arith)), h b (omega arith) (omega arith))
]

-- a square is its two halves and its diagonal
pub square : (c : ℕ → ℕ → ℕ) (n : ℕ) →
    sum_to (λ v. sum_to (λ u. c v u) n) n ≡ pair_sum (λ v u. c v u + c u v) n + sum_to (λ v. c v v) n
square c zero = refl
square c (suc n) = omega (
  arith,
  square c n,
  sum_add (λ v. sum_to (λ u. c v u) n) (λ v. c v n) n,
  sum_add (λ u. c n u) (λ u. c u n) n,
)

pub pairs_le : (c d : ℕ → ℕ → ℕ) (n : ℕ) → ((v u : ℕ) → u < v → v < n → c v u ≤ d v u) → pair_sum c n ≤ pair_sum d n
pairs_le c d n h = sum_le _ _ n (λ v l. sum_le _ _ v (λ u m. h v u m l))

pub pairs_eq : (c d : ℕ → ℕ → ℕ) (n : ℕ) → ((v u : ℕ) → u < v → v < n → c v u ≡ d v u) → pair_sum c n ≡ pair_sum d n
pairs_eq c d n h = sum_eq _ _ n (λ v l. sum_eq _ _ v (λ u m. h v u m l))

pub pairs_none : (c : ℕ → ℕ → ℕ) (n : ℕ) → ((v u : ℕ) → u < v → v < n → c v u ≡ 0) → pair_sum c n ≡ 0
pairs_none c n h = sum_none _ n (λ v l. sum_none _ v (λ u m. h v u m l))

-- two sums over pairs that differ at the pair lo < hi
pub pairs_point : (c d : ℕ → ℕ → ℕ) (n hi lo x : ℕ) → hi < n → lo < hi → c hi lo ≡ d hi lo + x
    → ((v u : ℕ) → u < v → (v ≡ hi → u ≡ lo → ⊥) → c v u ≡ d v u) → pair_sum c n ≡ pair_sum d n + x
pairs_point c d n hi lo x hn lh e same =
    sum_point _ _ n hi x hn (sum_point _ _ hi lo x lh e (λ u l ne. same hi u l (λ _ z. ne z)))
    (λ v _ ne. sum_eq _ _ v (λ u l. same v u l (λ z _. ne z)))

-- so many pairs u < v < n there are
abbrev pub tri : ℕ → ℕ
tri n = sum_to (λ v. v) n

pub tri_double : (n : ℕ) → n * (n - 1) ≡ tri n * 2
tri_double zero = refl
tri_double (suc zero) = refl
tri_double (suc (suc n)) =
    let e : suc (suc n) - 1 ≡ suc n = omega arith in
    let f : suc n - 1 ≡ n = omega arith in
    let i : suc n * n ≡ tri (suc n) * 2 = rw f at (tri_double (suc n)) in
    rw e (omega (arith, i, suc-mul (suc n) (suc n), mul-suc (suc n) n))

pub tri_is : (n : ℕ) → n * (n - 1) / 2 ≡ tri n
tri_is n = rw (tri_double n) (mul-div_left (tri n) (omega arith))

pub tri_le : (v n : ℕ) → v ≤ n → tri v ≤ tri n
tri_le v zero h = let e : v ≡ 0 = omega arith in omega (arith, ap tri e)
tri_le v (suc n) h = elim (cases_eq v (suc n)) [
  | inl e ↦ omega (arith, ap tri e)
  | inr ne ↦ omega (arith, tri_le v n (omega arith))
]

pub tri_small : (n : ℕ) → n ≤ 1024 → tri n ≤ 523776
tri_small n h = omega (arith, tri_le n 1024 h)

pub one_le : (b : Bool) → one b ≤ 1
one_le true = omega arith
one_le false = omega arith

pub ones_le : (p : ℕ → Bool) (n : ℕ) → sum_to (λ v. one (p v)) n ≤ n
ones_le p n = omega (arith, sum_most (λ v. one (p v)) 1 n (λ i _. one_le (p i)))

-- pairs of weight at most 1 weigh no more than there are pairs
pub pairs_most : (c : ℕ → ℕ → ℕ) (n : ℕ) → ((v u : ℕ) → c v u ≤ 1) → pair_sum c n ≤ tri n
pairs_most c n h = sum_le _ _ n (λ v _. omega (arith, sum_most (c v) 1 v (λ u _. h v u)))
