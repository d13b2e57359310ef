-- When the records of a chain book are in order: heads, ascending chains and free records.
use Rattle.std.specs.Prelude.{◌≡◌, ℕ, suc, ◌+◌, ◌*◌, ◌<◌, ◌≤◌, ◌⊎◌, List, [], ◌∷◌, length}
use Rattle.books.specs.Graphs.{Lawful, link_count}
use Rattle.chain_book.specs.declared.record.Record.{Record}
use Rattle.chain_book.specs.Records.{end_mark, next_of, partner_of, chain, free_records}
use Rattle.chain_book.specs.Meaning.{chain_graph}
use Rattle.chain_book.specs.Layout.{records_needed}

-- k stands in the list
abbrev pub In : ℕ → List ℕ → Type 0
In k [] = ⊥
In k (j ∷ js) = (k ≡ j) ⊎ In k js

-- no number stands in the list twice
abbrev pub Distinct : List ℕ → Type 0
Distinct [] = Unit {0}
Distinct (j ∷ js) = (In j js → ⊥) × Distinct js

-- from the record i on, the records js are met, in this order, each from lo to below hi; then comes the end mark
abbrev pub Run : (lo hi : ℕ) → (ℕ → ℕ) → ℕ → List ℕ → Type 0
Run lo hi next i [] = i ≡ end_mark
Run lo hi next i (j ∷ js) = (i ≡ j) × (lo ≤ j) × (j < hi) × Run lo hi next (next j) js

-- the partners that the records js hold ascend, from low on, and are below n
abbrev pub Ascend : ℕ → (ℕ → ℕ) → ℕ → List ℕ → Type 0
Ascend n partner low [] = Unit {0}
Ascend n partner low (j ∷ js) = (low ≤ partner j) × (partner j < n) × Ascend n partner (suc (partner j)) js

-- of m records the first n are heads; on the head u hang the records P u, and F are the free ones
pub record Keeps (n m : ℕ) (next partner : ℕ → ℕ) (free : ℕ) (P : ℕ → List ℕ) (F : List ℕ) : Type 0 where
  -- the record 0 is a head, so that no chain goes on to it, and it can be the end mark
  pub some : 1 ≤ n
  pub heads : n ≤ m
  -- every chain comes to its end
  pub runs : (u : ℕ) → u < n → Run n m next (next u) (P u)
  -- its partners ascend
  pub ascends : (u : ℕ) → u < n → Ascend n partner 0 (P u)
  -- the free records are a chain too, and none of them comes twice
  pub spare : Run n m next free F
  pub once : Distinct F
  -- no record is in two chains, or in a chain and free
  pub apart : (u v k : ℕ) → u < n → v < n → In k (P u) → In k (P v) → u ≡ v
  pub unused : (u k : ℕ) → u < n → In k (P u) → In k F → ⊥
  -- no record is lost: one that is no head, and that no chain has, is free
  pub none_lost : (k : ℕ) → n ≤ k → k < m → ((u : ℕ) → u < n → In k (P u) → ⊥) → In k F

-- the records rs spell n chains and, from `free` on, the free records
abbrev pub Chains : ℕ → List Record → ℕ → Type 0
Chains n rs free = Keeps n (length rs) (next_of rs) (partner_of rs) free (chain rs) (free_records rs free)

-- the records rs that a book of n cards stands on are in order
pub record Sound (n : ℕ) (rs : List Record) (free links : ℕ) : Type 0 where
  pub least : 1 ≤ n
  pub most : n ≤ 1024
  -- each link stands in the chains of both its ends, and no card has a link to itself
  pub lawful : Lawful (chain_graph n rs)
  -- the number that is kept is that of the links
  pub tally : links ≡ link_count (chain_graph n rs)
  -- a book that stands on no record at all has one card
  pub single : length rs ≡ 0 → n ≡ 1
  -- any other stands on the records that it needs and no more, and has its heads, chains and free records
  pub whole : 1 ≤ length rs → records_needed n (length rs) ≡ length rs
  pub chains : 1 ≤ length rs → Chains n rs free
  -- its records are as many as the heads, two for each link, and the free ones
  pub count : 1 ≤ length rs → n + 2 * links + length (free_records rs free) ≡ length rs
