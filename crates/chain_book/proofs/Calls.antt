-- What a question needs of the book's own records, and what the two insertions of a put and the two removals of a take
-- need one after the other, and leave.
use Rattle.std.proofs.Common.{◌≡◌, ℕ, ◌+◌, ◌-◌, ◌/◌, ◌<◌, ◌≤◌, true, ◌⊎◌, List, ◌++◌, length, take, drop, None, Option, sym, ap, ◌∙◌, arith}
use Rattle.std.proofs.lemmas.List.{length-append, length-take-le, take_at}
use Rattle.books.specs.Graphs.{with_link, without_link}
use Rattle.books.specs.Books.{next_partner, LowestPartner}
use Rattle.books.specs.Refusals.{put_refusal, take_refusal}
use Rattle.books.proofs.Partners.{next_lowest}
use Rattle.chain_book.specs.declared.record.Record.{Record}
use Rattle.chain_book.specs.declared.book.ChainBook.{ChainBook}
use Rattle.chain_book.specs.Records.{next_of, partner_of, chain, free_records}
use Rattle.chain_book.specs.Meaning.{chain_graph, chain_linked}
use Rattle.chain_book.specs.Order.{Chains, Sound}
use Rattle.chain_book.specs.Steps.{Walkable, onward, found, first_partner, hung, unhung}
use Rattle.chain_book.specs.Book.{own, past, graph_of, room_of, free_of}
use Rattle.chain_book.proofs.Runs.{step}
use Rattle.chain_book.proofs.Readings.{chain_next, none_next}
use Rattle.chain_book.proofs.Memories.{Inserted, Removed, inserted, removed, held}
use Rattle.chain_book.proofs.Writes.{walkable, free_some, some_link, Entering, entering, Leaving, leaving, put_fresh, put_graph, put_sound, put_free, take_held, take_graph, take_sound, take_free}

-- all records, once the book's own are ts
abbrev pub back : ChainBook → List Record → List Record
back b ts = ts ++ past b

module _ (b : ChainBook) where
  own_length : length (own b) ≡ b.needed
  own_length = length-take-le b.needed b.records.now b.fits

  back_own : (ts : List Record) → length ts ≡ b.needed → take b.needed (back b ts) ≡ ts
  back_own ts e = take_at ts (past b) b.needed e

-- r is the next partner, and so the lowest
abbrev pub Next : ChainBook → ℕ → ℕ → Option ℕ → Type 0
Next b u w r = record { is : r ≡ next_partner (graph_of b) u w; lowest : LowestPartner (graph_of b) u w r }

-- A question about u.
module _ (b : ChainBook) (u w : ℕ) where
  next : (r : Option ℕ) → r ≡ next_partner (graph_of b) u w → Next b u w r
  next r e = record { is = e; lowest = next_lowest (graph_of b) b.sound.lawful u w r e }

  pub ask_none : (b.cards ≤ u) ⊎ (b.needed ≡ 0) → Next b u w None
  ask_none c = next None (none_next b.cards (own b) b.free b.links u w b.sound (rw own_length c))

  module _ (lu : u < b.cards) (some : b.needed ≡ 0 → ⊥) where
    pub ask_runs : Walkable (own b) u
    ask_runs = walkable (own b) u (b.sound.chains (omega (arith, own_length b))) lu

    pub ask_next : {r : Option ℕ} → r ≡ first_partner (partner_of (own b)) (onward (partner_of (own b)) w (chain (own b) u)) → Next b u w r
    ask_next {r} e = next r (e ∙ chain_next b.cards (own b) b.free b.links u w b.sound (omega (arith, own_length b)) lu)

-- what an insertion into u's chain needs
abbrev pub Ready : List Record → ℕ → ℕ → Type 0
Ready rs free u = record { head : u < length rs; runs : Walkable rs u; free : free < length rs }

ready : {n : ℕ} (rs : List Record) {free : ℕ} (u : ℕ) → Chains n rs free → u < n → 1 ≤ length (free_records rs free) → Ready rs free u
ready {n} rs {free} u K lu one = record {
  head = omega (arith, K.heads);
  runs = walkable rs u K lu;
  free = (step n (length rs) (next_of rs) free K.some (free_some rs free one) K.spare).high;
}

-- what a removal from u's chain needs
abbrev pub Found : List Record → ℕ → ℕ → Type 0
Found rs u w = record { head : u < length rs; runs : Walkable rs u; held : found rs u w < length rs }

-- what a put or a take leaves where it does not refuse: the book's own records ts, of which `last` is the first free one
abbrev pub Left : ChainBook → ℕ → List Record → ℕ → Type 0
Left b links ts last = record { fits : b.needed ≤ length (back b ts); sound : Sound b.cards (take b.needed (back b ts)) last links }

-- A put of u and v.
module _ (b : ChainBook) (u v : ℕ) {places : ℕ} (room : places ≡ room_of b) (may : None ≡ put_refusal (graph_of b) places u v) where
  put_may : Entering b.cards (own b) b.free u v
  put_may =
      entering places u v b.sound (room ∙ ap (λ (k : ℕ). (k - b.cards) / 2) (sym (own_length b))) (sym may)

  pub put_first : Ready (own b) b.free u
  put_first = ready (own b) u put_may.chains put_may.ends.first (omega (arith, put_may.two))

  -- after the first insertion
  module _ {ss : List Record} {rest : ℕ} (es : ss ≡ hung (own b) b.free u v) (er : rest ≡ next_of (own b) b.free) where
    put_one : Inserted b.cards (own b) ss b.free rest u v
    put_one =
        inserted u v put_may.chains put_may.ends.first put_may.ends.second
        put_may.out (free_some (own b) b.free (omega (arith, put_may.two))) ss rest es er

    put_left : 1 ≤ length (free_records ss rest)
    put_left = omega (arith, put_may.two, ap length put_one.spare)

    pub put_second : Ready ss rest v
    put_second = ready ss v put_one.chains put_may.ends.second put_left

    -- after the second
    module _ {ts : List Record} {last : ℕ} (et : ts ≡ hung ss rest v u) (el : last ≡ next_of ss rest) where
      put_two : Inserted b.cards ss ts rest last v u
      put_two =
          inserted v u put_one.chains put_may.ends.second put_may.ends.first
          (put_fresh b.sound put_may.ends put_may.out put_one) (free_some ss rest put_left) ts last et el

      put_size : length ts ≡ b.needed
      put_size = put_two.size ∙ (put_one.size ∙ own_length b)

      pub put_invariant : Left b (b.links + 1) ts last
      put_invariant = record {
        fits = omega (arith, length-append ts (past b), put_size);
        sound = rw (back_own b ts put_size) (put_sound b.sound put_may.ends put_may.out put_one put_two);
      }

      pub put_links : chain_graph b.cards (take b.needed (back b ts)) ≡ with_link (graph_of b) u v
      put_links = rw (back_own b ts put_size) (put_graph b.sound put_may.ends put_may.out put_one put_two)

      pub put_spare : free_records (take b.needed (back b ts)) last ≡ drop 2 (free_of b)
      put_spare = rw (back_own b ts put_size) (put_free b.sound put_may.ends put_may.out put_one put_two)

-- A take of u and v.
module _ (b : ChainBook) (u v : ℕ) (may : None ≡ take_refusal (graph_of b) u v) where
  take_may : Leaving b.cards (own b) b.free u v
  take_may = leaving u v b.sound (sym may)

  pub take_some : 1 ≤ b.links
  take_some = some_link b.sound take_may.ends take_may.held

  pub take_first : Found (own b) u v
  take_first = record {
    head = omega (arith, take_may.chains.heads, take_may.ends.first);
    runs = walkable (own b) u take_may.chains take_may.ends.first;
    held = (held u v take_may.chains take_may.ends.first take_may.held).within;
  }

  -- after the first removal
  module _ {ss : List Record} {gone : ℕ} (es : ss ≡ unhung (own b) b.free u v) (eg : gone ≡ found (own b) u v) where
    take_one : Removed b.cards (own b) ss b.free gone u v
    take_one =
        removed u v take_may.chains take_may.ends.first
        take_may.held (omega (arith, take_may.fit)) ss gone es eg

    take_still : chain_linked b.cards ss v u ≡ true
    take_still = take_held b.sound take_may.ends take_may.held take_one

    pub take_second : Found ss v u
    take_second = record {
      head = omega (arith, take_one.chains.heads, take_may.ends.second);
      runs = walkable ss v take_one.chains take_may.ends.second;
      held = (held v u take_one.chains take_may.ends.second take_still).within;
    }

    -- after the second
    module _ {ts : List Record} {last : ℕ} (et : ts ≡ unhung ss gone v u) (el : last ≡ found ss v u) where
      take_two : Removed b.cards ss ts gone last v u
      take_two =
          removed v u take_one.chains take_may.ends.second take_still
          (omega (arith, take_may.fit, take_one.size, ap length take_one.spare)) ts last et el

      take_size : length ts ≡ b.needed
      take_size = take_two.size ∙ (take_one.size ∙ own_length b)

      pub take_invariant : Left b (b.links - 1) ts last
      take_invariant = record {
        fits = omega (arith, length-append ts (past b), take_size);
        sound = rw (back_own b ts take_size) (take_sound b.sound take_may.ends take_may.held take_one take_two);
      }

      pub take_links : chain_graph b.cards (take b.needed (back b ts)) ≡ without_link (graph_of b) u v
      take_links = rw (back_own b ts take_size) (take_graph b.sound take_may.ends take_may.held take_one take_two)

      pub take_spare : drop 2 (free_records (take b.needed (back b ts)) last) ≡ free_of b
      take_spare = rw (back_own b ts take_size) (take_free b.sound take_may.ends take_may.held take_one take_two)
