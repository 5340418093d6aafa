-- The law of the new record.
use Rattle.std.proofs.Common.{◌≡◌, ℕ, ◌+◌, ◌-◌, ◌%◌, ◌<◌, IsTrue, Bool, true, false, ◌&&◌, nat_lt, nat_le, List, Option, Some, None, if◌then◌else◌, ◌∙◌, refl, sym, ap, subst, arith}
use native.Mathlib.Nat.{mod-eq_of_lt, add-mod_right}
use Rattle.std.proofs.lemmas.Bool.Decides.{nat_tests}
use Rattle.otadata.specs.declared.TheConstants.{LAST_SEQUENCE}
use Rattle.otadata.specs.declared.records.Record.{Record}
use Rattle.otadata.specs.declared.records.Slot.{Slot}
use Rattle.otadata.specs.Record.{Reading, is_sequence}
use Rattle.sectors.specs.declared.reading.SectorNumber.{SectorNumber}
use Rattle.slot_records.specs.declared.Placement.{Placement}
use Rattle.slot_records.specs.Naming.{active_at}
use Rattle.slot_records.specs.Placing.{next_sequence, new_sequence, free_sector, placement, active_sequence, Smallest, Placed, PlacementLaw}
use Rattle.slot_records.proofs.Next.{next_smallest}

-- with no active record, the first sequence that names slot s is s + 1
first_sequence : (n : ℕ) (slot : Slot) → slot.0 < n → next_sequence n slot (record { 0 = 0 }) ≡ record { 0 = slot.0 + 1 }
unfolding next_sequence
first_sequence n slot below =
    let none : 0 % n ≡ 0 = mod-eq_of_lt (omega arith) in
    let whole : slot.0 + n - 0 % n ≡ slot.0 + n = omega (arith, none) in
    let steps : (slot.0 + n - 0 % n) % n ≡ slot.0 = ap (λ (x : ℕ). x % n) whole ∙ add-mod_right slot.0 n ∙ mod-eq_of_lt below in
    ap (λ (x : ℕ). record { 0 = x }) (omega (arith, steps))

-- so the new sequence is the next one in either case
new_is_next : (n : ℕ) (slot : Slot) (held : Option (SectorNumber × Record)) → slot.0 < n → new_sequence n slot held ≡ next_sequence n slot (active_sequence held)
new_is_next n slot None below = sym (first_sequence n slot below)
new_is_next n slot (Some held) below = refl

new_smallest : (n : ℕ) (slot : Slot) (held : Option (SectorNumber × Record)) → slot.0 < n → Smallest n slot (active_sequence held) (new_sequence n slot held)
new_smallest n slot held below = subst (Smallest n slot (active_sequence held)) (sym (new_is_next n slot held below)) (next_smallest n slot.0 (active_sequence held).0 below)

-- what is placed is placed where the tests say so
placed_by : (n : ℕ) (slot : Slot) (readings : List Reading) (placed : Placement) (below fits : Bool)
    → nat_lt slot.0 n ≡ below → nat_le (new_sequence n slot (active_at readings)).0 LAST_SEQUENCE ≡ fits
    → (if below && fits then Some (record { sector = free_sector (active_at readings); sequence = new_sequence n slot (active_at readings) }) else None) ≡ Some placed
    → Placed n slot readings placed
placed_by n slot readings placed true true b f is =
    let held = active_at readings in
    let made : record { sector = free_sector held; sequence = new_sequence n slot held } ≡ placed = cc in
    let below : slot.0 < n = grind (arith, nat_tests) in
    let smallest = new_smallest n slot held below in
    let sequence : IsTrue (is_sequence (new_sequence n slot held).0) = grind (arith, nat_tests, smallest.above) in
    subst (Placed n slot readings) made (record { below = below; sector = refl; sequence = sequence; smallest = smallest })
placed_by n slot readings placed true false b f is = cc
placed_by n slot readings placed false fits b f is = cc

pub placement_law : PlacementLaw
unfolding PlacementLaw placement
placement_law n slot readings placed is = placed_by n slot readings placed (nat_lt slot.0 n) (nat_le (new_sequence n slot (active_at readings)).0 LAST_SEQUENCE) refl refl is
