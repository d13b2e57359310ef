-- Heights: there is one, and only one.
use Rattle.std.proofs.Common.{◌≡◌, ℕ, suc, ◌+◌, ◌-◌, ◌*◌, ◌/◌, ◌<◌, ◌≤◌, refl, ap, subst, arith}
use Rattle.peel.specs.Tolerances.{Next, Height, stands, falls}

pub next_is : (p q c : ℕ) → 1 ≤ p → p ≤ q → 0 < c → Next p q c ((c * q - 1) / (q + p))
next_is p q c a b h = grind arith

pub next_less : (p q c d : ℕ) → Next p q c d → d < c
next_less p q c d nx = grind arith

next_one : (p q c a b : ℕ) → Next p q c a → Next p q c b → a ≡ b
next_one p q c a b x y = omega (arith, x.1 b y.0, y.1 a x.0)

pub height_one : {p q c k k' : ℕ} → Height p q c k → Height p q c k' → k ≡ k'
height_one stands stands = refl
height_one stands (falls h x i) = absurd (omega arith)
height_one (falls h x i) stands = absurd (omega arith)
height_one {p} {q} (falls h x i) (falls {k = j} h' x' i') = ap suc (height_one i (subst (λ (d : ℕ). Height p q d j) (next_one p q _ _ _ x' x) i'))
