-- What holds of every book, whatever memory it stands on.
use Rattle.std.specs.Prelude.{◌≡◌, ℕ, zero, suc, ◌+◌, ◌-◌, ◌<◌, ◌≤◌, Bool, true, false, cond, ◌&&◌, Some, None, Option, nat_le}
use Rattle.books.specs.Graphs.{Graph, Lawful}

-- what holds of the cards and links g of every book
pub record IsBook (g : Graph) : Type 0 where
  pub lawful : Lawful g
  pub least : 1 ≤ g.cards
  pub most : g.cards ≤ 1024

-- n cards suit a book: from 1 to 1,024
abbrev pub cards_suit : ℕ → Bool
cards_suit n = nat_le 1 n && nat_le n 1024

-- the first of the k numbers from w on that passes p
abbrev pub first_from : (ℕ → Bool) → ℕ → ℕ → Option ℕ
first_from p zero w = None
first_from p (suc k) w = cond (p w) (Some w) (first_from p k (w + 1))

-- the lowest partner of u that is not below w
abbrev pub next_partner : Graph → ℕ → ℕ → Option ℕ
next_partner g u w = first_from (g.linked u) (g.cards - w) w

-- the answer r is a partner of u that is not below w, with no partner between; or it is none, and u has no such partner
abbrev pub LowestPartner : Graph → ℕ → ℕ → Option ℕ → Type 0
LowestPartner g u w (Some x) = (w ≤ x) × (g.linked u x ≡ true) × ((v : ℕ) → w ≤ v → v < x → g.linked u v ≡ false)
LowestPartner g u w None = (v : ℕ) → w ≤ v → g.linked u v ≡ false
