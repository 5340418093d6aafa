-- Through every list of cut rewrites of one sector: what that sector reads as, and which app the next boot starts.
use Rattle.std.specs.Prelude.{ℕ, ◌≡◌, true, List, [], ◌++◌, ◌⊎◌, length, IsTrue, Some, Result, Ok}
use Rattle.otadata.specs.declared.records.Slot.{Slot}
use Rattle.otadata.specs.declared.records.Record.{Record}
use Rattle.otadata.specs.declared.states.State.TheVariants.{Pending}
use Rattle.otadata.specs.State.{is_usable}
use Rattle.otadata.specs.Record.{slot_of}
use Rattle.sectors.specs.declared.TheConstants.{SECTOR_SIZE, STORES}
use Rattle.sectors.specs.declared.reading.SectorNumber.{SectorNumber}
use Rattle.sectors.specs.declared.reading.SectorNumber.TheVariants.{Zero, One}
use Rattle.sectors.specs.Sector.{other_than, read_sector, active}
use Rattle.sectors.specs.Otadata.{readings_of}
use Rattle.sectors.specs.PowerCut.{Call, after, reads_as, History}
use Rattle.partitions.specs.declared.list.App.TheVariants.{OtaSlot}
use Rattle.app_image.specs.declared.Facts.{Facts}
use Rattle.node.specs.declared.Settings.{Settings}
use Rattle.node.specs.declared.Node.{Node}
use Rattle.node.specs.declared.refusal.Refusal.{Refusal}
use Rattle.node.specs.Node.{otadata_size, node_of, passing}
use Rattle.boot_choice.specs.Choice.{slots_of, Passes}
use Rattle.boot.specs.declared.Start.{Start}
use Rattle.boot_laws.specs.Laws.{Boot, reply, sector, marked, Never}

-- ---- two sectors, one of which is rewritten

-- otadata with these bytes in sector p, and those in the other one
abbrev pub otadata_of : SectorNumber → List ℕ → List ℕ → List ℕ
otadata_of Zero own other = own ++ other
otadata_of One own other = other ++ own

-- the slot that a good record names
abbrev pub named_slot : Node → Record → Slot
named_slot node r = slot_of (slots_of node) r.sequence

-- the untouched sector: it holds a usable record, not pending while rollback is on, whose app passes
pub record Untouched (node : Node) (other : List ℕ) (r : Record) : Type 0 where
  pub size : length other ≡ SECTOR_SIZE
  pub holds : read_sector other ≡ Ok r
  pub usable : IsTrue (is_usable r.state)
  pub not_pending : node.settings.rollback ≡ true → r.state ≡ Pending → ⊥
  pub passes : Passes node (OtaSlot (named_slot node r))

-- after boot's aborted marks the record of sector p is the active one, and its app passes
pub record Prevails (node : Node) (otadata : List ℕ) (p : SectorNumber) : Type 0 where
  pub own : Record
  pub is_active : active (readings_of (marked node.settings otadata)) ≡ Some p
  pub holds : read_sector (sector p (marked node.settings otadata)) ≡ Ok own
  pub passes : Passes node (OtaSlot (named_slot node own))

-- boot starts a record's app if it replies with that record's slot and sector. The register comes back as given, and the facts are those of
-- the app's image
pub record StartsRecord (node : Node) (reply : Result Start Refusal) (k : SectorNumber) (r : Record) : Type 0 where
  pub facts : Facts
  pub passes : passing node (OtaSlot (named_slot node r)) ≡ Some facts
  pub starts : reply ≡ Ok (record { app = OtaSlot (named_slot node r); through = Some k; register = node.settings.efuse; facts = facts })

-- ---- the claim

-- the calls on sector p, the last rewrite among them, and what stays as it is meanwhile
pub record Case : Type 0 where
  -- the sector that is rewritten, the bytes with which it starts, and the calls on it
  pub p : SectorNumber
  pub start : List ℕ
  pub calls : List Call
  -- the last rewrite: the bytes on which it began, its record, and how many of its stores were done
  pub before : List ℕ
  pub bytes : List ℕ
  pub k : ℕ
  -- the bytes of the untouched sector, and its record
  pub other : List ℕ
  pub untouched : Record
  -- the partition list, the flash and the settings of the next boot, and the node that they make
  pub words : List ℕ
  pub flash : List ℕ
  pub settings : Settings
  pub node : Node

-- the bytes that the calls leave in sector p
abbrev pub sector_left : Case → List ℕ
sector_left c = after c.calls c.start

-- the next boot, lent both sectors as they stand
abbrev pub next_boot : Case → Boot
next_boot c = record { words = c.words; flash = c.flash; otadata = otadata_of c.p (sector_left c) c.other; settings = c.settings }

-- what is assumed: a history of sector p, a list and settings that boot accepts, and the untouched sector beside it
pub record Premises (c : Case) : Type 0 where
  pub history : History c.start c.calls c.before c.bytes c.k
  pub accepts : node_of c.words c.flash otadata_size c.settings ≡ Ok c.node
  pub untouched : Untouched c.node c.other c.untouched

-- the record of sector p prevails in the next boot
abbrev pub OwnPrevails : Case → Type 0
OwnPrevails c = Prevails c.node (next_boot c).otadata c.p

-- what is claimed of the bytes left in sector p, and of the next boot
pub record Claim (c : Case) : Type 0 where
  -- the sector reads exactly as the record it held when the last rewrite began, exactly as that rewrite's record, or as none
  pub reads : (reads_as (sector_left c) ≡ reads_as c.before) ⊎ ((reads_as (sector_left c) ≡ c.bytes) ⊎ (reads_as (sector_left c) ≡ []))
  -- when the last rewrite is finished, as its record
  pub finished : c.k ≡ STORES → reads_as (sector_left c) ≡ c.bytes
  -- the next boot starts the app of the rewritten sector's record where that prevails
  pub own : (w : OwnPrevails c) → StartsRecord c.node (reply (next_boot c)) c.p w.own
  -- and only there
  pub own_only : (start : Start) → reply (next_boot c) ≡ Ok start → start.through ≡ Some c.p → OwnPrevails c
  -- otherwise the untouched record's app
  pub otherwise : (OwnPrevails c → ⊥) → StartsRecord c.node (reply (next_boot c)) (other_than c.p) c.untouched
  -- it never starts one through a record marked invalid or aborted, nor, with anti-rollback on, one below the eFuse version
  pub never : Never (next_boot c)

-- for every list of calls on a sector that starts blank or with a good record, either sector, and all that boot accepts
unfoldable pub Demand3 : Type 0
Demand3 = (c : Case) → Premises c → Claim c
