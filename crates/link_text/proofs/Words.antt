-- Word after word: what a call of `next` and the reading of its answer tell of the words that were left.
use Rattle.std.proofs.Common.{◌≡◌, ℕ, suc, ◌+◌, ◌-◌, ◌<◌, ◌≤◌, Bool, true, false, cond, not, eqb, List, [], ◌∷◌, ◌++◌, length, get_or, take, set, Some, None, Ok, Err, Option, Result, MatchOption, MatchBool, Bor, sym, refl, ap, ◌∙◌, subst, arith, append_assoc, is_some}
use Rattle.std.specs.List.{slice_split, onto_first, All, IsFirstMatchOrLen}
use Rattle.std.proofs.lemmas.Grind.{common_steps}
use Rattle.std.proofs.lemmas.List.{take_more_set, take_all}
use Rattle.std.proofs.lemmas.List.Splits.{slice_split_none, slice_split_at}
use Rattle.link_text.specs.declared.fault.Fault.{Fault}
use Rattle.link_text.specs.declared.fault.Fault.TheVariants.{Missing, MoreFollows}
use Rattle.link_text.specs.Numbers.{number_in}
use Rattle.link_text.specs.Lines.{in_front, words, first_number, and_then, at_end, numbers_in}

abbrev pub is_space : ℕ → Bool
is_space b = eqb b 32

onto_same : (b : ℕ) (ws : List (List ℕ)) → onto_first b ws ≡ in_front b ws
onto_same b [] = refl
onto_same b (w ∷ ws) = refl

split_step : (b : ℕ) (bs : List ℕ) (s : Bool) → slice_split is_space bs ≡ words bs
    → cond s ([] ∷ slice_split is_space bs) (onto_first b (slice_split is_space bs)) ≡ cond (not s) (in_front b (words bs)) ([] ∷ words bs)
split_step b bs true ih = ap (λ ws. [] ∷ ws) ih
split_step b bs false ih = ap (onto_first b) ih ∙ onto_same b (words bs)

-- the words of a line are the parts between its spaces
split_words : (line : List ℕ) → slice_split is_space line ≡ words line
split_words [] = refl
split_words (b ∷ bs) = split_step b bs (is_space b) (split_words bs)

-- the words that are left: none where the last was taken
abbrev pub left : Bool → List ℕ → List (List ℕ)
left done rest = cond done [] (words rest)

-- the words where this one was taken, and the others are left
abbrev pub first_of : Option (Bor (List ℕ)) → List (List ℕ) → List (List ℕ)
first_of None after = []
first_of (Some w) after = w.now ∷ after

-- the word was taken from those, and the others are left; or there was none
pub record Taken (o : Option (Bor (List ℕ))) (ws after : List (List ℕ)) : Type 0 where
  pub is : ws ≡ first_of o after

part : (w rest after : List ℕ) (done : Bool) → MatchBool done (rest ≡ w) ((y : ℕ) × (rest ≡ w ++ (y ∷ after))) → IsFirstMatchOrLen is_space rest (length w) → slice_split is_space rest ≡ w ∷ left done after
part w rest after true e h = ap (slice_split is_space) e ∙ slice_split_none is_space w (λ k d l. subst (λ ys. is_space (get_or ys k d) ≡ false) e (h.0 k d (omega arith) l))
part w rest after false e h =
    let front : All (λ z. is_space z ≡ false) w = λ k d l. let a = h.0 k d (omega arith) l in let b = e.1 in grind (arith, common_steps) in
    let hit : is_space e.0 ≡ true = let b = e.1 in let a = h.1 (grind (arith, common_steps)) e.0 in grind (arith, common_steps) in
    ap (slice_split is_space) e.1 ∙ (slice_split_at is_space w e.0 after front hit ∙ ap (λ ws. w ∷ ws) (split_words after))

-- a call of `next`, where K says what the test of the split computes
pub taken : (K L : (ℕ → Bool) → Type 0) (E : Type 0) (o : Option (Bor (List ℕ))) (done more : Bool) (rest after : List ℕ)
    → MatchOption o ((done ≡ true) × E) (λ w. (done ≡ false) × MatchBool more (rest ≡ w.now) ((y : ℕ) × (rest ≡ w.now ++ (y ∷ after))) × ((p : ℕ → Bool) → K p → L p × IsFirstMatchOrLen p rest (length w.now)))
    → K is_space → Taken o (left done rest) (left more after)
taken K L E None done more rest after step k = record { is = ap (λ d. left d rest) step.0 }
taken K L E (Some w) done more rest after step k = record {
  is = ap (λ d. left d rest) step.0 ∙ (sym (split_words rest) ∙ part w.now rest after more step.1 (step.2 is_space k).1);
}

-- what was made of a first thing goes on as it would from there
then_then : {A B C : Type 0} (r : Result A Fault) (f : A → Result B Fault) (go : B → Result C Fault) → and_then (and_then r f) go ≡ and_then r (λ a. and_then (f a) go)
then_then (Ok a) f go = refl
then_then (Err e) f go = refl

then_same : {A B : Type 0} (r : Result A Fault) (f go : A → Result B Fault) → ((a : A) → f a ≡ go a) → and_then r f ≡ and_then r go
then_same (Ok a) f go h = h a
then_same (Err e) f go h = refl

-- what was read of the first word
number_told : (o : Option (Bor (List ℕ))) (after : List (List ℕ)) (r : Result ℕ Fault) → MatchOption o (r ≡ Err Missing) (λ w. r ≡ number_in w.now) → first_number (first_of o after) ≡ and_then r (λ n. Ok (n, after))
number_told None after r told = ap (λ (r : Result ℕ Fault). and_then r (λ n. Ok (n, after))) (sym told)
number_told (Some w) after r told = ap (λ (r : Result ℕ Fault). and_then r (λ n. Ok (n, after))) (sym told)

-- what is made of the numbers that are still to read, where the word was taken and r is what was read of it
one_read : {A : Type 0} {o : Option (Bor (List ℕ))} {ws after : List (List ℕ)} (k : ℕ) (r : Result ℕ Fault) (go : List ℕ → Result A Fault)
    → Taken o ws after → MatchOption o (r ≡ Err Missing) (λ w. r ≡ number_in w.now)
    → and_then (numbers_in (suc k) ws) go ≡ and_then r (λ n. and_then (numbers_in k after) (λ ns. go (n ∷ ns)))
one_read {A = A} {o = o} {ws = ws} {after = after} k r go t told =
    let f : first_number ws ≡ and_then r (λ n. Ok (n, after)) = ap first_number t.is ∙ number_told o after r told in
    let more = λ (x : ℕ × List (List ℕ)). and_then (numbers_in k x.1) (λ ns. Ok (x.0 ∷ ns)) in
    ap (λ y. and_then {A = List ℕ} {B = A} (and_then y more) go) f
    ∙ (ap (λ y. and_then {A = List ℕ} {B = A} y go) (then_then r (λ n. Ok (n, after)) more)
    ∙ (then_then r (λ n. more (n, after)) go ∙ then_same r _ _ (λ n. then_then (numbers_in k after) (λ ns. Ok (n ∷ ns)) go)))

then_ok : {A : Type 0} (r : Result A Fault) → r ≡ and_then r (λ a. Ok a)
then_ok (Ok a) = refl
then_ok (Err e) = refl

-- all that is read, where these numbers were read of the line and those words are left
abbrev pub behind : ℕ → ℕ → List ℕ → List (List ℕ) → Result (List ℕ) Fault
behind n i xs ws = and_then (numbers_in (n - i) ws) (λ ns. Ok (take i xs ++ ns))

-- before the first number all words are left
pub behind_none : (n : ℕ) (xs line rest : List ℕ) (done : Bool) → rest ≡ line → done ≡ false → numbers_in n (words line) ≡ behind n 0 xs (left done rest)
behind_none n xs line rest done r d =
    let m : n ≡ n - 0 = omega arith in
    ap (λ ws. numbers_in n ws) (ap words (sym r) ∙ ap (λ b. left b rest) (sym d)) ∙ (then_ok (numbers_in n (left done rest)) ∙ ap (λ k. and_then (numbers_in k (left done rest)) (λ ns. Ok ns)) m)

-- one number more, as it was read of the word taken
behind_one : {o : Option (Bor (List ℕ))} {ws after : List (List ℕ)} (n i : ℕ) (xs : List ℕ) (r : Result ℕ Fault) → i < n → Taken o ws after → MatchOption o (r ≡ Err Missing) (λ w. r ≡ number_in w.now)
    → behind n i xs ws ≡ and_then r (λ m. and_then (numbers_in (n - (i + 1)) after) (λ ns. Ok (take i xs ++ (m ∷ ns))))
behind_one {ws = ws} n i xs r h t told =
    let m : n - i ≡ suc (n - (i + 1)) = omega arith in
    ap (λ k. and_then (numbers_in k ws) (λ ns. Ok (take i xs ++ ns))) m ∙ one_read (n - (i + 1)) r (λ ns. Ok (take i xs ++ ns)) t told

pub behind_wrong : {o : Option (Bor (List ℕ))} {ws after : List (List ℕ)} (n i : ℕ) (xs : List ℕ) (e : Fault) (all : Result (List ℕ) Fault) → i < n → Taken o ws after → MatchOption o (◌≡◌ {A = Result ℕ Fault} (Err e) (Err Missing)) (λ w. Err e ≡ number_in w.now)
    → all ≡ behind n i xs ws → Err e ≡ all
behind_wrong n i xs e all h t told a = sym (a ∙ behind_one n i xs (Err e) h t told)

pub behind_more : {o : Option (Bor (List ℕ))} {ws after : List (List ℕ)} (n i m : ℕ) (xs : List ℕ) (all : Result (List ℕ) Fault) → i < n → length xs ≡ n → Taken o ws after → MatchOption o (◌≡◌ {A = Result ℕ Fault} (Ok m) (Err Missing)) (λ w. Ok m ≡ number_in w.now)
    → all ≡ behind n i xs ws → all ≡ behind n (i + 1) (set xs i m) after
behind_more {after = after} n i m xs all h l t told a =
    a ∙ (behind_one n i xs (Ok m) h t told ∙ then_same (numbers_in (n - (i + 1)) after) _ _ (λ ns. ap (λ ys. Ok ys) (sym (append_assoc (take i xs) (m ∷ []) ns) ∙ ap (λ ys. ys ++ ns) (sym (take_more_set xs i m (omega arith))))))

-- after the last number no word may be left
behind_all : {o : Option (Bor (List ℕ))} {ws after : List (List ℕ)} (n i : ℕ) (xs : List ℕ) → n ≤ i → length xs ≡ n → Taken o ws after → behind n i xs ws ≡ and_then (at_end (first_of o after) []) (λ ns. Ok (xs ++ ns))
behind_all {o = o} {ws = ws} {after = after} n i xs h l t =
    let z : n - i ≡ 0 = omega arith in
    ap (λ k. and_then (numbers_in k ws) (λ ns. Ok (take i xs ++ ns))) z ∙ (ap (λ v. and_then (at_end v []) (λ ns. Ok (take i xs ++ ns))) t.is ∙ ap (λ ys. and_then (at_end (first_of o after) []) (λ ns. Ok (ys ++ ns))) (take_all i xs (omega arith)))

pub behind_follows : {o : Option (Bor (List ℕ))} {ws after : List (List ℕ)} (n i : ℕ) (xs : List ℕ) (all : Result (List ℕ) Fault) → n ≤ i → length xs ≡ n → Taken o ws after → true ≡ is_some o → all ≡ behind n i xs ws → Err MoreFollows ≡ all
behind_follows {o = None} n i xs all h l t f a = absurd (cc)
behind_follows {o = Some w} n i xs all h l t f a = sym (a ∙ behind_all n i xs h l t)
