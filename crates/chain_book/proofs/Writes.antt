-- A link goes into the chains of both its ends, or out of both: the book that is left, and that its records are in order.
use Rattle.std.proofs.Common.{◌≡◌, ℕ, ◌+◌, ◌-◌, ◌/◌, ◌<◌, ◌≤◌, true, false, List, length, drop, None, refl, ap, ◌∙◌, arith}
use Rattle.std.proofs.lemmas.Bool.Decides.{nat_tests}
use Rattle.books.specs.Graphs.{link_count, with_link, without_link}
use Rattle.books.specs.Refusals.{put_refusal, take_refusal}
use Rattle.books.proofs.Links.{Ends, graph_same, with_lawful, without_lawful, with_count, without_count, put_may, take_may}
use Rattle.chain_book.specs.declared.record.Record.{Record}
use Rattle.chain_book.specs.Records.{next_of, chain, free_records}
use Rattle.chain_book.specs.Meaning.{chain_linked, chain_graph}
use Rattle.chain_book.specs.Order.{Chains, Sound}
use Rattle.chain_book.specs.Steps.{Walkable}
use Rattle.chain_book.proofs.Runs.{run_wider}
use Rattle.chain_book.proofs.Memories.{Inserted, Removed}

-- two cards have heads to hang their chains on
pub has_heads : {n : ℕ} {rs : List Record} {free links u v : ℕ} → Sound n rs free links → Ends (chain_graph n rs) u v → 1 ≤ length rs
has_heads S en = grind (arith, nat_tests)

pub walkable : {n : ℕ} (rs : List Record) {free : ℕ} (u : ℕ) → Chains n rs free → u < n → Walkable rs u
walkable {n} rs u K lu = run_wider n (length rs) 1 (next_of rs) (next_of rs u) (chain rs u) K.some (K.runs u lu)

-- a free record is left where the free records are not at their end
pub free_some : (rs : List Record) (free : ℕ) → 1 ≤ length (free_records rs free) → free ≡ 0 → ⊥
free_some rs free l e = grind (arith, nat_tests)

-- what a put that is not refused can rest on: a place is left, and so two free records are
pub record Entering (n : ℕ) (rs : List Record) (free u v : ℕ) : Type 0 where
  pub ends : Ends (chain_graph n rs) u v
  pub out : chain_linked n rs u v ≡ false
  pub chains : Chains n rs free
  pub two : 2 ≤ length (free_records rs free)

pub entering : {n : ℕ} {rs : List Record} {free links : ℕ} (room u v : ℕ) → Sound n rs free links → room ≡ (length rs - n) / 2
    → put_refusal (chain_graph n rs) room u v ≡ None → Entering n rs free u v
entering {n} {rs} room u v S er h =
    let m = put_may (chain_graph n rs) room u v h in
    let s = has_heads S m.ends in
    record {
      ends = m.ends;
      out = m.out;
      chains = S.chains s;
      two = omega (arith, S.count s, S.tally, m.room);
    }

-- a link that is held is counted
pub some_link : {n : ℕ} {rs : List Record} {free links u v : ℕ} → Sound n rs free links → Ends (chain_graph n rs) u v → chain_linked n rs u v ≡ true → 1 ≤ links
some_link {n} {rs} {u = u} {v = v} S en held = omega (arith, S.tally, without_count (chain_graph n rs) u v S.lawful en held)

-- what a take that is not refused can rest on
pub record Leaving (n : ℕ) (rs : List Record) (free u v : ℕ) : Type 0 where
  pub ends : Ends (chain_graph n rs) u v
  pub held : chain_linked n rs u v ≡ true
  pub chains : Chains n rs free
  pub fit : 1 + length (free_records rs free) < length rs

pub leaving : {n : ℕ} {rs : List Record} {free links : ℕ} (u v : ℕ) → Sound n rs free links → take_refusal (chain_graph n rs) u v ≡ None → Leaving n rs free u v
leaving {n} {rs} u v S h =
    let m = take_may (chain_graph n rs) u v h in
    let s = has_heads S m.ends in
    record {
      ends = m.ends;
      held = m.held;
      chains = S.chains s;
      fit = omega (arith, S.count s, m.ends.first, some_link S m.ends m.held);
    }

-- The first record is in u's chain now, the second still to come into v's.
module _ {n : ℕ} {rs ss : List Record} {free links rest u v : ℕ} (S : Sound n rs free links) (en : Ends (chain_graph n rs) u v)
    (out : chain_linked n rs u v ≡ false) (I : Inserted n rs ss free rest u v) where
  pub put_fresh : chain_linked n ss v u ≡ false
  put_fresh = grind (arith, nat_tests, I.linked v u, S.lawful.even v u, en.differ)

  -- Both are in.
  module _ {ts : List Record} {last : ℕ} (J : Inserted n ss ts rest last v u) where
    pub put_graph : chain_graph n ts ≡ with_link (chain_graph n rs) u v
    put_graph = graph_same _ _ refl (λ a b. grind (arith, nat_tests, J.linked a b, I.linked a b))

    pub put_sound : Sound n ts last (links + 1)
    put_sound = record {
      least = S.least;
      most = S.most;
      lawful = rw put_graph (with_lawful (chain_graph n rs) u v S.lawful en);
      tally = omega (arith, S.tally, ap link_count put_graph, with_count (chain_graph n rs) u v S.lawful en out);
      single = λ e. S.single (omega (arith, e, I.size, J.size));
      whole = λ h. rw (J.size ∙ I.size) (S.whole (has_heads S en));
      chains = λ h. J.chains;
      count = λ h. omega (arith, I.size, J.size, ap length I.spare, ap length J.spare, S.count (has_heads S en));
    }

    pub put_free : free_records ts last ≡ drop 2 (free_records rs free)
    put_free = rw (I.spare, J.spare)

-- The record of v is out of u's chain now, that of u still to go out of v's.
module _ {n : ℕ} {rs ss : List Record} {free links gone u v : ℕ} (S : Sound n rs free links) (en : Ends (chain_graph n rs) u v)
    (held : chain_linked n rs u v ≡ true) (I : Removed n rs ss free gone u v) where
  pub take_held : chain_linked n ss v u ≡ true
  take_held = grind (arith, nat_tests, I.linked v u, S.lawful.even v u, en.differ)

  -- Both are out.
  module _ {ts : List Record} {last : ℕ} (J : Removed n ss ts gone last v u) where
    pub take_graph : chain_graph n ts ≡ without_link (chain_graph n rs) u v
    take_graph = graph_same _ _ refl (λ a b. grind (arith, nat_tests, J.linked a b, I.linked a b))

    pub take_sound : Sound n ts last (links - 1)
    take_sound =
        let one = some_link S en held in
        record {
          least = S.least;
          most = S.most;
          lawful = rw take_graph (without_lawful (chain_graph n rs) u v S.lawful);
          tally = omega (arith, S.tally, ap link_count take_graph, without_count (chain_graph n rs) u v S.lawful en held);
          single = λ e. S.single (omega (arith, e, I.size, J.size));
          whole = λ h. rw (J.size ∙ I.size) (S.whole (has_heads S en));
          chains = λ h. J.chains;
          count = λ h. omega (arith, I.size, J.size, ap length I.spare, ap length J.spare, S.count (has_heads S en));
        }

    pub take_free : drop 2 (free_records ts last) ≡ free_records rs free
    take_free = rw (J.spare, I.spare)
