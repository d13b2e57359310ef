use Rattle.std.proofs.Common.{◌≡◌, true, false, rules}
use Rattle.std.proofs.lemmas.Iterator.{first_from_Range}
use Rattle.books.proofs.Partners.{lowest_found, lowest_of, lowest_next}
use Rattle.books.proofs.reading.ReadingBook.next_partner.Goals as goal

pub returns : goal.returns
returns g c =
    let b = g.Self.ReadingBook.graph c.args.self.now in
    let l = (g.met.Self.ReadingBook.sound c.args.self.now).lawful in
    let m = lowest_found b l c.args.u c.args.w c.find.result
    (rw (← c.cards.ensures.is) (first_from_Range _ _ _ _ (λ x. b.linked c.args.u x ≡ true) (λ x. b.linked c.args.u x ≡ false) c.find.ensures.ran
    (λ x q k. search rules) (λ x q k. (search rules, search rules)))) in
    record { is = lowest_next b l c.args.u c.args.w c.find.result (lowest_of b c.args.u c.args.w c.find.result m); lowest = m }
