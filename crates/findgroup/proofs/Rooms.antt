-- A list with a place for each card has room for every group.
use Rattle.std.proofs.Common.{◌≡◌, ℕ, ◌≤◌, false, List, cond, length, ltb, Some, None, Ok, Err, Result, refl, ap, ◌∙◌, arith}
use Rattle.std.specs.Result.{IsOk}
use Rattle.std.proofs.lemmas.Bool.{le-ltb}
use Rattle.books.specs.declared.refusal.Refusal.{Refusal}
use Rattle.books.specs.declared.refusal.Refusal.TheVariants.{ListTooShort}
use Rattle.books.specs.Graphs.{Graph}
use Rattle.peel.specs.Sets.{size}
use Rattle.peel.proofs.Lines.{size_le}
use Rattle.search.specs.declared.found.Group.{Group}
use Rattle.search.specs.Answers.{Answered}

pub has_room : {g : Graph} {p q : ℕ} {was is : List ℕ} (r : Result Group Refusal) → Answered g p q was r is → g.cards ≤ length was → IsOk r
has_room (Ok f) a h = refl
has_room {g = g} {was = was} (Err e) a h =
    let t : ltb (length was) (size g a.outcome.kept) ≡ false = le-ltb (length was) (size g a.outcome.kept) (omega (arith, size_le g a.outcome.kept)) in
    let n : Some e ≡ None = a.refused ∙ ap (λ b. cond b (Some ListTooShort) None) t in
    absurd (cc)
