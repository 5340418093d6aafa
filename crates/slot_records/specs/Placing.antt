-- Where a new record for a slot goes, with n slots, and its sequence.
use Rattle.std.specs.Prelude.{ℕ, ◌+◌, ◌-◌, ◌%◌, ◌<◌, ◌≤◌, ◌≡◌, IsTrue, ◌&&◌, nat_lt, nat_le, List, Option, Some, None, if◌then◌else◌}
use Rattle.otadata.specs.declared.TheConstants.{LAST_SEQUENCE}
use Rattle.otadata.specs.declared.records.Sequence.{Sequence}
use Rattle.otadata.specs.declared.records.Slot.{Slot}
use Rattle.otadata.specs.declared.records.Record.{Record}
use Rattle.otadata.specs.Record.{Reading, is_sequence, slot_of}
use Rattle.sectors.specs.declared.reading.SectorNumber.{SectorNumber}
use Rattle.sectors.specs.declared.reading.SectorNumber.TheVariants.{Zero}
use Rattle.sectors.specs.Sector.{other_than}
use Rattle.slot_records.specs.declared.Placement.{Placement}
use Rattle.slot_records.specs.Naming.{active_at}

-- the smallest sequence above this one that names the slot: the one after it names slot `above mod n`, and each further one the next slot,
-- after the last slot 0
unfoldable pub next_sequence : ℕ → Slot → Sequence → Sequence
next_sequence n slot above = record { 0 = above.0 + 1 + (slot.0 + n - above.0 % n) % n }

-- the sequence of the new record: the smallest above the active one that names the slot; with no active record the slot's number + 1
abbrev pub new_sequence : ℕ → Slot → Option (SectorNumber × Record) → Sequence
new_sequence n slot None = record { 0 = slot.0 + 1 }
new_sequence n slot (Some held) = next_sequence n slot held.1.sequence

-- the sector that isn't active; with no active record sector 0
abbrev pub free_sector : Option (SectorNumber × Record) → SectorNumber
free_sector None = Zero
free_sector (Some held) = other_than held.0

-- where the new record goes, and its sequence; nothing where the slot is none of the n, or that would pass the last sequence
unfoldable pub placement : ℕ → Slot → List Reading → Option Placement
placement n slot readings =
    let held = active_at readings in
    let sequence = new_sequence n slot held in
    if nat_lt slot.0 n && nat_le sequence.0 LAST_SEQUENCE then Some (record { sector = free_sector held; sequence = sequence }) else None

-- ---- the law of the next sequence, over n

-- a sequence is the smallest above another that names the slot, and at most n above it
pub record Smallest (n : ℕ) (slot : Slot) (other next : Sequence) : Type 0 where
  pub above : other.0 < next.0
  pub names : slot_of n next ≡ slot
  pub smallest : (x : Sequence) → other.0 < x.0 → slot_of n x ≡ slot → next.0 ≤ x.0
  pub within : next.0 ≤ other.0 + n

unfoldable pub NextLaw : Type 0
NextLaw = (n : ℕ) (slot : Slot) (other : Sequence) → slot.0 < n → Smallest n slot other (next_sequence n slot other)

-- ---- the law of the new record

-- the sequence of the active record; where there is none, 0
abbrev pub active_sequence : Option (SectorNumber × Record) → Sequence
active_sequence None = record { 0 = 0 }
active_sequence (Some held) = held.1.sequence

-- a new record goes into the sector that isn't active; its sequence can be a good record's, names the slot, and is the smallest above
-- the active one's that does
pub record Placed (n : ℕ) (slot : Slot) (readings : List Reading) (placed : Placement) : Type 0 where
  pub below : slot.0 < n
  pub sector : placed.sector ≡ free_sector (active_at readings)
  pub sequence : IsTrue (is_sequence placed.sequence.0)
  pub smallest : Smallest n slot (active_sequence (active_at readings)) placed.sequence

unfoldable pub PlacementLaw : Type 0
PlacementLaw = (n : ℕ) (slot : Slot) (readings : List Reading) (placed : Placement) → placement n slot readings ≡ Some placed → Placed n slot readings placed
