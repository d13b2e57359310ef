-- Bits of bytes: what a turned bit, and a run of cleared bytes, leave of each.
use Rattle.std.proofs.Common.{◌≡◌, ℕ, zero, suc, ◌+◌, ◌-◌, ◌*◌, ◌/◌, ◌%◌, ◌^◌, ◌<◌, false, not, eqb, ◌⊎◌, List, length, get_or, drop, replicate, sym, refl, ap, ◌∙◌, subst, inl, inr, ⊎_elim, arith, get_or-set_other, get_or-set_same}
use native.Mathlib.Nat.{zero-div, div_self, div-eq_of_lt, pow-succ', mul-mod_right}
use lib.Bits.{bit_xor, xor_shr, xor_mod}
use Rattle.std.proofs.lemmas.Nat.{pow_pos, pow-add, shl-shr, pow_below, mod_below, div_below}
use Rattle.std.proofs.lemmas.List.{get_or_append_left, get_or-replicate, length-replicate}
use Rattle.std.proofs.lemmas.Bool.{cases_eq, cases_order}
use Rattle.bit_book.specs.Layout.{bit_at, cleared, turned}

pub bit_none : (xs : List ℕ) (k : ℕ) → get_or xs (k / 8) 0 ≡ 0 → bit_at xs k ≡ false
bit_none xs k h = rw (h, zero-div)

-- no bit of the cleared bytes is set
pub bit_cleared : (xs : List ℕ) (n k : ℕ) → k < 8 * n → bit_at (cleared n xs) k ≡ false
bit_cleared xs n k h =
    let l : k / 8 < n = div_below k 8 n (omega arith) (omega arith) in
    bit_none (cleared n xs) k
    (get_or_append_left (replicate n 0) (drop n xs) 0 (k / 8) (rw (length-replicate {A = ℕ} n 0) l) ∙ get_or-replicate n (k / 8) 0 0 l)

pow_same : (m : ℕ) → 2 ^ m / 2 ^ m % 2 ≡ 1
pow_same m = rw (div_self (pow_pos m))

pow_low : (d j : ℕ) → 2 ^ (suc d + j) / 2 ^ j % 2 ≡ 0
pow_low d j = rw (pow-add 2 (suc d) j, shl-shr (2 ^ suc d) j, pow-succ' 2 d) (mul-mod_right 2 (2 ^ d))

pow_high : (m j : ℕ) → m < j → 2 ^ m / 2 ^ j % 2 ≡ 0
pow_high m j h = rw (div-eq_of_lt (pow_below m j h))

-- a power of two has one digit 1
pow_other : (m j : ℕ) → (j ≡ m → ⊥) → 2 ^ m / 2 ^ j % 2 ≡ 0
pow_other m j ne =
    ⊎_elim (λ e. absurd (ne (sym e)))
    (λ o. ⊎_elim (λ h. pow_high m j h)
    (λ h. let e : suc (m - j - 1) + j ≡ m = omega arith in subst (λ (x : ℕ). 2 ^ x / 2 ^ j % 2 ≡ 0) e (pow_low (m - j - 1) j)) o)
    (cases_order m j)

xor_digit : (x y j : ℕ) → bit_xor x y / 2 ^ j % 2 ≡ bit_xor (x / 2 ^ j % 2) (y / 2 ^ j % 2)
xor_digit x y j = rw (xor_shr x y j) (xor_mod (x / 2 ^ j) (y / 2 ^ j) 1)

two_cases : (n : ℕ) → n < 2 → (n ≡ 0) ⊎ (n ≡ 1)
two_cases zero h = inl refl
two_cases (suc zero) h = inr refl
two_cases (suc (suc n)) h = absurd (omega arith)

xor_one : (n : ℕ) → n < 2 → eqb (bit_xor n 1) 1 ≡ not (eqb n 1)
xor_one n h = ⊎_elim (λ e. rw e) (λ e. rw e) (two_cases n h)

xor_zero : (n : ℕ) → n < 2 → bit_xor n 0 ≡ n
xor_zero n h = ⊎_elim (λ e. rw e) (λ e. rw e) (two_cases n h)

digit_turned : (x m : ℕ) → eqb (bit_xor x (2 ^ m) / 2 ^ m % 2) 1 ≡ not (eqb (x / 2 ^ m % 2) 1)
digit_turned x m = rw (xor_digit x (2 ^ m) m, pow_same m) (xor_one (x / 2 ^ m % 2) (mod_below (x / 2 ^ m) 2 (omega arith)))

digit_kept : (x m j : ℕ) → (j ≡ m → ⊥) → bit_xor x (2 ^ m) / 2 ^ j % 2 ≡ x / 2 ^ j % 2
digit_kept x m j ne = rw (xor_digit x (2 ^ m) j, pow_other m j ne) (xor_zero (x / 2 ^ j % 2) (mod_below (x / 2 ^ j) 2 (omega arith)))

pub turned_here : (xs : List ℕ) (k : ℕ) → k / 8 < length xs → bit_at (turned xs k) k ≡ not (bit_at xs k)
turned_here xs k h =
    rw (get_or-set_same xs (k / 8) (bit_xor (get_or xs (k / 8) 0) (2 ^ (k % 8))) 0 h) (digit_turned (get_or xs (k / 8) 0) (k % 8))

pub turned_others : (xs : List ℕ) (k j : ℕ) → k / 8 < length xs → (j ≡ k → ⊥) → bit_at (turned xs k) j ≡ bit_at xs j
turned_others xs k j h ne =
    ⊎_elim
    (λ (e : j / 8 ≡ k / 8).
    let off : j % 8 ≡ k % 8 → ⊥ = λ f. ne (omega arith) in
    rw (e, get_or-set_same xs (k / 8) (bit_xor (get_or xs (k / 8) 0) (2 ^ (k % 8))) 0 h)
    (ap (λ n. eqb n 1) (digit_kept (get_or xs (k / 8) 0) (k % 8) (j % 8) off)))
    (λ (e : j / 8 ≡ k / 8 → ⊥). rw (get_or-set_other xs (k / 8) (j / 8) (bit_xor (get_or xs (k / 8) 0) (2 ^ (k % 8))) 0 e))
    (cases_eq (j / 8) (k / 8))
