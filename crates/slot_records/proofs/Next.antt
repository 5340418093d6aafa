-- The next sequence that names a slot is the smallest above another that does.
use Rattle.std.proofs.Common.{◌≡◌, ℕ, ◌+◌, ◌-◌, ◌%◌, ◌<◌, ◌≤◌, ◌∙◌, sym, ap, ⊎_elim, arith}
use native.Mathlib.Nat.{mod-lt, mod-eq_of_lt, mod-add-mod, add-mod_right, mod-eq-sub-mod}
use Rattle.std.proofs.lemmas.Bool.Decides.{nat_tests}
use Rattle.std.proofs.lemmas.Bool.{cases_lt}
use Rattle.otadata.specs.declared.records.Sequence.{Sequence}
use Rattle.otadata.specs.declared.records.Slot.{Slot}
use Rattle.otadata.specs.Record.{slot_of}
use Rattle.slot_records.specs.Placing.{next_sequence, Smallest, NextLaw}

-- within n numbers no two have the same remainder
same_remainder : (a n e : ℕ) → e < n → (a + e) % n ≡ a % n → e ≡ 0
same_remainder a n e below same =
    let t = a % n in
    let small : t < n = mod-lt a (omega arith) in
    let whole : (t + e) % n ≡ t = mod-add-mod a n e ∙ same in
    ⊎_elim
    (λ (under : t + e < n). let again : t + e ≡ t = sym (mod-eq_of_lt under) ∙ whole in omega arith)
    (λ (over : n ≤ t + e).
    let again : t + e - n ≡ t = sym (mod-eq_of_lt (omega arith)) ∙ sym (mod-eq-sub-mod over) ∙ whole in
    absurd (omega arith))
    (cases_lt (t + e) n)

-- the number d after q + 1 names the remainder of q + d
names_at : (n q d : ℕ) → 0 < n → (slot_of n (record { 0 = q + 1 + d })).0 ≡ (q + d) % n
names_at n q d some =
    let before : q + 1 + d - 1 ≡ q + d = omega arith in
    grind (arith, nat_tests, before)

module _ (n s q : ℕ) (below : s < n) where
  abbrev steps : ℕ
  steps = (s + n - q % n) % n

  steps_below : steps < n
  steps_below = mod-lt (s + n - q % n) (omega arith)

  steps_reach : (q + steps) % n ≡ s
  steps_reach =
      let far = s + n - q % n in
      let small : q % n < n = mod-lt q (omega arith) in
      let turn : q + steps ≡ steps + q = omega arith in
      let back : far + q ≡ q + far = omega arith in
      let there : q % n + far ≡ s + n = omega (arith, small) in
      ap (λ (x : ℕ). x % n) turn
      ∙ mod-add-mod far n q
      ∙ ap (λ (x : ℕ). x % n) back
      ∙ sym (mod-add-mod q n far)
      ∙ ap (λ (x : ℕ). x % n) there
      ∙ add-mod_right s n
      ∙ mod-eq_of_lt below

  -- no number between names the slot
  none_between : (x : ℕ) → q < x → x < q + 1 + steps → (slot_of n (record { 0 = x })).0 ≡ s → ⊥
  none_between x above under named =
      let e = x - (q + 1) in
      let is : x ≡ q + 1 + e = omega (arith, above) in
      let at : (q + e) % n ≡ s = sym (names_at n q e (omega arith)) ∙ ap (λ (x : ℕ). (slot_of n (record { 0 = x })).0) (sym is) ∙ named in
      let apart : q + e + (steps - e) ≡ q + steps = omega (arith, is, under) in
      let none : steps - e ≡ 0 = same_remainder (q + e) n (steps - e) (omega (arith, steps_below)) (ap (λ (x : ℕ). x % n) apart ∙ steps_reach ∙ sym at) in
      omega (arith, is, under, none)

  pub next_smallest : Smallest n (record { 0 = s }) (record { 0 = q }) (next_sequence n (record { 0 = s }) (record { 0 = q }))
  unfolding next_sequence
  next_smallest = record {
    above = omega arith;
    names = ap (λ (i : ℕ). record { 0 = i }) (names_at n q steps (omega arith) ∙ steps_reach);
    smallest = λ (x : Sequence) (above : q < x.0) (named : slot_of n x ≡ record { 0 = s }).
        ⊎_elim
        (λ (under : x.0 < q + 1 + steps). absurd (none_between x.0 above under (ap (λ (i : Slot). i.0) named)))
        (λ (past : q + 1 + steps ≤ x.0). past)
        (cases_lt x.0 (q + 1 + steps));
    within = omega (arith, steps_below);
  }

pub next_law : NextLaw
unfolding NextLaw
next_law n slot other below = next_smallest n slot.0 other.0 below
