-- The first of highest density: the best so far, one more, and that there is only one.
use Rattle.std.proofs.Common.{◌≡◌, ℕ, zero, suc, ◌-◌, ◌*◌, ◌<◌, ◌≤◌, cond, ltb, ◌⊎◌, sym, ap, ◌∙◌, subst, inl, inr, le_of_eq, le_of_lt, le_refl, mul-le-mul_right, lt_of_mul-lt-mul_right, mul-lt-mul_of_pos_right, arith}
use Rattle.std.proofs.lemmas.Bool.{cases_eq, cases_lt, lt-ltb, le-ltb, cond-true, cond-false}
use Rattle.peel.specs.Peels.{Densest}

pub densest_one : (e s : ℕ → ℕ) → 0 < s 0 → Densest e s 1 0
densest_one e s some = grind arith

pub densest_keeps : (e s : ℕ → ℕ) (m i : ℕ) → Densest e s m i → (0 < s m → e m * s i ≤ e i * s m) → Densest e s (suc m) i
densest_keeps e s m i d k = grind arith

pub densest_takes : (e s : ℕ → ℕ) (m i : ℕ) → Densest e s m i → 0 < s m → e i * s m < e m * s i → Densest e s (suc m) m
densest_takes e s m i d pm k = record {
  among = omega arith;
  some = pm;
  highest = λ j h p. elim (cases_eq j m) [
    | inl z ↦ subst (λ (x : ℕ). e x * s m ≤ e m * s x) (sym z) (le_refl _)
    | inr n ↦ le_of_lt (over j (omega arith) p)
  ];
  first = over;
}
  where
    over : (j : ℕ) → j < m → 0 < s j → e j * s m < e m * s j
    over j h p = lt_of_mul-lt-mul_right (s i) (omega (arith, mul-le-mul_right (s m) (d.highest j h p), mul-lt-mul_of_pos_right {k = s j} k p))

-- there is one first of highest density
pub densest_only : (e s : ℕ → ℕ) (m i j : ℕ) → Densest e s m i → Densest e s m j → i ≡ j
densest_only e s m i j a b = grind arith

-- more sets change nothing where each of them is empty or as dense as one before
pub densest_extends : (e s : ℕ → ℕ) (m k i : ℕ) → m ≤ k → Densest e s m i
    → ((j : ℕ) → m ≤ j → j < k → (s j ≡ 0) ⊎ ((h : ℕ) × (h < m) × (e j ≡ e h) × (s j ≡ s h))) → Densest e s k i
densest_extends e s m k i l d more = grind arith

-- the better of the best so far and the set t
pub densest_step : (e s : ℕ → ℕ) (t i : ℕ) → 0 < s t → Densest e s (suc (t - 1)) i → Densest e s (suc t) (cond (ltb (e i * s t) (e t * s i)) t i)
densest_step e s zero i some d =
    let z : i ≡ 0 = omega (arith, d.among) in
    subst (λ (j : ℕ). Densest e s 1 j) (sym (cond-false _ _ _ (le-ltb _ _ (le_of_eq (ap (λ (j : ℕ). e 0 * s j) z ∙ ap (λ (j : ℕ). e j * s 0) (sym z)))))) d
densest_step e s (suc t) i some d =
    let m : suc (suc t - 1) ≡ suc t = omega arith in
    let o : Densest e s (suc t) i = subst (λ (j : ℕ). Densest e s j i) m d in
    elim (cases_lt (e i * s (suc t)) (e (suc t) * s i)) [
      | inl l ↦ subst (λ (j : ℕ). Densest e s (suc (suc t)) j) (sym (cond-true _ _ _ (lt-ltb _ _ l))) (densest_takes e s (suc t) i o some l)
      | inr l ↦ subst (λ (j : ℕ). Densest e s (suc (suc t)) j) (sym (cond-false _ _ _ (le-ltb _ _ l))) (densest_keeps e s (suc t) i o (λ _. l))
    ]
