use Rattle.std.proofs.Common.{◌≡◌, ℕ, ◌-◌, ◌*◌, ◌<◌, ◌≤◌, sym, subst, mul-le-mul, arith}
use Rattle.peel.specs.Tolerances.{Height}
use Rattle.peel.proofs.Searches.{rank_le, search_sound}
use Rattle.search.specs.Rows.{marked}
use Rattle.search.proofs.Searchings.{searching_few, searching_ends, searching_grows, searching_again}
use Rattle.search.proofs.searching.search_from.Goals as goal

-- a height of as many cards as the book has
at_cards : (p q c n k : ℕ) → c ≡ n → Height p q c k → Height p q n k
at_cards p q c n k e h = subst (λ (x : ℕ). Height p q x k) e h

cube : (n : ℕ) → n ≤ 1024 → n * n * n ≤ 1073741824
cube n h = mul-le-mul (mul-le-mul h h) h

falls : (a b c : ℕ) → a < b → b ≤ c → c - b < c - a
falls a b c h l = omega arith

pub overflow_add-peels : goal.overflow_add-peels
overflow_add-peels g c =
    let h = g.B.ReadingBook.graph c.args.book.now in
    let b = g.met.B.ReadingBook.sound c.args.book.now in
    omega (arith, searching_few c.search.invariant b.lawful, cube h.cards b.most)

pub search-smaller : goal.search-smaller
search-smaller g c =
    let h = g.B.ReadingBook.graph c.args.book.now in
    let b = g.met.B.ReadingBook.sound c.args.book.now in
    let e = c.peel_book.ensures in
    falls _ _ _
    (searching_grows c.search.invariant (record { levels = e.levels; best = e.best; line_is = e.line }) b.lawful c.args.tolerance.least
    (sym c.if-not-reached_by.ensures) (marked c.marks_at-group.result) (λ v h. c.marks_at-group.ensures v (omega (arith, b.most))))
    (rank_le h b.lawful (marked c.marks_at-group.result))

pub search-preserved : goal.search-preserved
search-preserved g c =
    let h = g.B.ReadingBook.graph c.args.book.now in
    let b = g.met.B.ReadingBook.sound c.args.book.now in
    let e = c.peel_book.ensures in
    searching_again c.search.invariant (record { levels = e.levels; best = e.best; line_is = e.line }) b.lawful c.args.tolerance.least
    (sym c.if-not-reached_by.ensures) (marked c.marks_at-group.result) (λ v h. c.marks_at-group.ensures v (omega (arith, b.most)))

pub returns : goal.returns
returns g c =
    let h = g.B.ReadingBook.graph c.args.book.now in
    let b = g.met.B.ReadingBook.sound c.args.book.now in
    let e = c.peel_book.ensures in
    let high : Height c.args.tolerance.p c.args.tolerance.q h.cards c.height-height.result = at_cards _ _ _ _ _ c.cards.ensures.is c.height-height.ensures.is in
    let s = searching_ends c.search.invariant (record { levels = e.levels; best = e.best; line_is = e.line }) (sym c.if-not-reached_by.ensures) in
    record { outcome = s; height = high; sound = search_sound b.lawful (omega (arith, c.args.tolerance.least, c.args.tolerance.order)) high s }
