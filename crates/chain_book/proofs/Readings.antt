-- What a walk along a chain answers about the graph.
use Rattle.std.proofs.Common.{◌≡◌, ℕ, ◌<◌, ◌≤◌, false, ◌⊎◌, List, length, None, sym, inl, inr, arith}
use Rattle.std.proofs.lemmas.Bool.Decides.{nat_tests}
use mathlib.Core.Path.{fun_ext}
use Rattle.std.proofs.lemmas.List.{nil_from_length}
use Rattle.books.specs.Books.{next_partner}
use Rattle.books.proofs.Partners.{lowest_next}
use Rattle.chain_book.specs.declared.record.Record.{Record}
use Rattle.chain_book.specs.Records.{partner_of, chain}
use Rattle.chain_book.specs.Meaning.{chain_linked, chain_graph}
use Rattle.chain_book.specs.Order.{Sound}
use Rattle.chain_book.specs.Steps.{onward, first_partner}
use Rattle.chain_book.proofs.Holdings.{chain_lowest}
use Rattle.chain_book.proofs.Memories.{linked_holds}

pub chain_next : (n : ℕ) (rs : List Record) (free links u w : ℕ) → Sound n rs free links → 1 ≤ length rs → u < n
    → first_partner (partner_of rs) (onward (partner_of rs) w (chain rs u)) ≡ next_partner (chain_graph n rs) u w
chain_next n rs free links u w S h lu =
    lowest_next (chain_graph n rs) S.lawful u w _
    (rw (← fun_ext (λ v. sym (linked_holds n rs u v lu)))
    (chain_lowest n (partner_of rs) 0 w (chain rs u) ((S.chains h).ascends u lu)))

-- a number that is no card, and a card that has no head, has no partner
pub none_next : (n : ℕ) (rs : List Record) (free links u w : ℕ) → Sound n rs free links → (n ≤ u) ⊎ (length rs ≡ 0) → None ≡ next_partner (chain_graph n rs) u w
none_next n rs free links u w S c = lowest_next (chain_graph n rs) S.lawful u w None (λ v _. no c v)
  where
    no : (n ≤ u) ⊎ (length rs ≡ 0) → (v : ℕ) → chain_linked n rs u v ≡ false
    no (inl g) v = grind (arith, nat_tests)
    no (inr e) v = rw (nil_from_length rs e) (grind (arith, nat_tests))
