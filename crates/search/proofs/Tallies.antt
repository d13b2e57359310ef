-- Counting the cards of a set, and their partners in it, card by card.
use Rattle.std.proofs.Common.{◌≡◌, ℕ, ◌+◌, ◌*◌, ◌/◌, ◌≤◌, Bool, ap, ◌∙◌, arith}
use Rattle.books.specs.Sums.{sum_to, one}
use Rattle.books.specs.Graphs.{Graph, Lawful}
use Rattle.books.proofs.Sums.{sum_more, sum_most}
use Rattle.peel.specs.declared.line.Line.{Line}
use Rattle.peel.specs.Sets.{Cards, partners_in}
use Rattle.peel.specs.Lines.{line_of}
use Rattle.peel.proofs.Charges.{handshake, partners_most}

-- the partners in X of the cards of X below u
abbrev pub ends_below : Graph → Cards → ℕ → ℕ
ends_below g X u = sum_to (λ v. one (X v) * partners_in g X v) u

pub more_cards : (X : Cards) (u : ℕ) (b : Bool) → X u ≡ b → sum_to (λ v. one (X v)) (u + 1) ≡ sum_to (λ v. one (X v)) u + one b
more_cards X u b e = sum_more (λ v. one (X v)) u ∙ ap (λ (x : Bool). sum_to (λ v. one (X v)) u + one x) e

pub more_ends : (g : Graph) (X : Cards) (u : ℕ) (b : Bool) → X u ≡ b → ends_below g X (u + 1) ≡ ends_below g X u + one b * partners_in g X u
more_ends g X u b e = sum_more (λ v. one (X v) * partners_in g X v) u ∙ ap (λ (x : Bool). ends_below g X u + one x * partners_in g X u) e

-- there are few of them
pub ends_few : (g : Graph) (X : Cards) (u : ℕ) → u ≤ 1024 → g.cards ≤ 1024 → ends_below g X u ≤ 1048576
ends_few g X u h n = grind (arith, sum_most (λ v. one (X v) * partners_in g X v) 1024 u (λ v _. grind (arith, partners_most g X v)))

-- all cards counted: each link was met from both its ends
pub set_line : (g : Graph) (X : Cards) (u cards ends : ℕ) → Lawful g → u ≡ g.cards
    → cards ≡ sum_to (λ v. one (X v)) u → ends ≡ ends_below g X u
    → ◌≡◌ {A = Line} (record { links = ends / 2; cards = cards }) (line_of g X)
set_line g X u cards ends w e a b = grind (arith, handshake g X w)
