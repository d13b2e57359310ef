-- What a walk along a chain finds, and what a change leaves of the records.
use Rattle.std.specs.Prelude.{ℕ, cond, List, [], ◌∷◌, length, Some, None, Option, nat_lt, slice_set}
use Rattle.chain_book.specs.declared.record.Record.{Record}
use Rattle.chain_book.specs.Records.{next_of, partner_of, chain}
use Rattle.chain_book.specs.Order.{Run}

-- u's chain can be walked to its end, and no step leaves the records or comes to the record 0
abbrev pub Walkable : List Record → ℕ → Type 0
Walkable rs u = Run 1 (length rs) (next_of rs) (next_of rs u) (chain rs u)

-- the records at the front of js whose partners are below w
abbrev pub lower : (ℕ → ℕ) → ℕ → List ℕ → List ℕ
lower partner w [] = []
lower partner w (j ∷ js) = cond (nat_lt (partner j) w) (j ∷ lower partner w js) []

-- the records of js that come after those
abbrev pub onward : (ℕ → ℕ) → ℕ → List ℕ → List ℕ
onward partner w [] = []
onward partner w (j ∷ js) = cond (nat_lt (partner j) w) (onward partner w js) (j ∷ js)

-- the last of js, or u where there is none
abbrev pub last_or : ℕ → List ℕ → ℕ
last_or u [] = u
last_or u (j ∷ js) = last_or j js

-- the record after which w belongs in u's chain: the last whose partner is below w, or the head
abbrev pub stop : List Record → ℕ → ℕ → ℕ
stop rs u w = last_or u (lower (partner_of rs) w (chain rs u))

-- the record of u's chain that comes after it: where the chain holds w, the one that does
abbrev pub found : List Record → ℕ → ℕ → ℕ
found rs u w = next_of rs (stop rs u w)

-- the partner that the first of js holds
abbrev pub first_partner : (ℕ → ℕ) → List ℕ → Option ℕ
first_partner partner [] = None
first_partner partner (j ∷ js) = Some (partner j)

-- the same records, but that i comes after the record at
abbrev pub pointed : List Record → (at i : ℕ) → List Record
pointed rs at i = slice_set rs at (record { partner = partner_of rs at; next = i })

-- the same records, but that the record i holds w and comes after the record at
abbrev pub spliced : List Record → (at i w : ℕ) → List Record
spliced rs at i w = pointed (slice_set rs i (record { partner = w; next = next_of rs at })) at i

-- the same records, but that the one which came after the record at is no longer in its chain
abbrev pub cut : List Record → (at : ℕ) → List Record
cut rs at = pointed rs at (next_of rs (next_of rs at))

-- the same records, with w in u's chain, where it belongs, in the record i
abbrev pub hung : List Record → (i u w : ℕ) → List Record
hung rs i u w = spliced rs (stop rs u w) i w

-- the same records, without w in u's chain: its record is now the first free one, before `free`
abbrev pub unhung : List Record → (free u w : ℕ) → List Record
unhung rs free u w = pointed (cut rs (stop rs u w)) (found rs u w) free

-- the link of u and v is put in: v into u's chain in the first free record, and u into v's in the second
abbrev pub put_in : List Record → (free u v : ℕ) → List Record
put_in rs free u v = hung (hung rs free u v) (next_of rs free) v u

-- the link of u and v is taken out: first v from u's chain, then u from v's, so that its record is the first free one
abbrev pub taken_out : List Record → (free u v : ℕ) → List Record
taken_out rs free u v = unhung (unhung rs free u v) (found rs u v) v u
