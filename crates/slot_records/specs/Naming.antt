-- Which record names a slot, with n slots.
use Rattle.std.specs.Prelude.{ℕ, Bool, false, ◌==◌, List, [], ◌∷◌, Option, Some, None, Ok, Err, option_map, option_and_then, if◌then◌else◌}
use Rattle.std.specs.Option.{option_or}
use Rattle.std.specs.Result.{result_ok}
use Rattle.otadata.specs.declared.records.Sequence.{Sequence}
use Rattle.otadata.specs.declared.records.Slot.{Slot}
use Rattle.otadata.specs.declared.records.Record.{Record}
use Rattle.otadata.specs.declared.records.Fault.TheVariants.{WrongSize}
use Rattle.otadata.specs.declared.states.State.TheVariants.{Pending}
use Rattle.otadata.specs.Record.{Reading, slot_of, in_state}
use Rattle.sectors.specs.declared.reading.SectorNumber.{SectorNumber}
use Rattle.sectors.specs.declared.reading.SectorNumber.TheVariants.{Zero, One}
use Rattle.sectors.specs.Sector.{highest, active}

-- a good record names a slot
abbrev pub names : ℕ → Slot → Record → Bool
names n slot r = (slot_of n r.sequence).0 == slot.0

-- ---- the active record

abbrev pub held_at : Reading → Reading → SectorNumber → Option (SectorNumber × Record)
held_at first second Zero = option_map (λ r. (Zero, r)) (result_ok first)
held_at first second One = option_map (λ r. (One, r)) (result_ok second)

-- the active record, with its sector; a missing reading counts as none
unfoldable pub active_at : List Reading → Option (SectorNumber × Record)
active_at [] = None
active_at (first ∷ []) = option_and_then (held_at first (Err WrongSize)) (active (first ∷ []))
active_at (first ∷ second ∷ rest) = option_and_then (held_at first second) (active (first ∷ second ∷ rest))

-- the sector of the active record, if that names the slot
unfoldable pub active_naming : ℕ → Slot → List Reading → Option SectorNumber
active_naming n slot readings = option_and_then (λ held. if names n slot held.1 then Some held.0 else None) (active_at readings)

abbrev pub is_pending : Option (SectorNumber × Record) → Bool
is_pending None = false
is_pending (Some held) = in_state Pending (Ok held.1)

-- the active record is pending
unfoldable pub active_pending : List Reading → Bool
active_pending readings = is_pending (active_at readings)

-- ---- the record that names a slot

-- the sequence of a good record that names the slot
unfoldable pub naming_sequence : ℕ → Slot → Reading → Option Sequence
naming_sequence n slot reading = option_and_then (λ r. if names n slot r then Some r.sequence else None) (result_ok reading)

-- the sector of the good record of highest sequence that names the slot, sector 0 on a tie
unfoldable pub highest_naming : ℕ → Slot → List Reading → Option SectorNumber
highest_naming n slot [] = None
highest_naming n slot (first ∷ []) = highest (naming_sequence n slot first) None
highest_naming n slot (first ∷ second ∷ rest) = highest (naming_sequence n slot first) (naming_sequence n slot second)

-- the active record if it names the slot, else the good record of highest sequence that names it
unfoldable pub naming_record : ℕ → Slot → List Reading → Option SectorNumber
naming_record n slot readings = option_or (active_naming n slot readings) (highest_naming n slot readings)
