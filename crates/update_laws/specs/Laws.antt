-- What holds of every set-boot and every mark, on any bytes.
use Rattle.std.specs.Prelude.{◌≡◌, ℕ, List, ◌++◌, length, take, drop, replicate, ◌⊎◌, ◌↔◌, Some, None, Result, Ok, Err}
use Rattle.otadata.specs.declared.records.Record.{Record}
use Rattle.otadata.specs.declared.records.Sequence.{Sequence}
use Rattle.otadata.specs.declared.records.Slot.{Slot}
use Rattle.otadata.specs.declared.states.State.TheVariants.{Invalid}
use Rattle.otadata.specs.Record.{slot_of}
use Rattle.sectors.specs.declared.TheConstants.{SECTOR_SIZE}
use Rattle.sectors.specs.declared.reading.SectorNumber.{SectorNumber}
use Rattle.sectors.specs.declared.reading.SectorNumber.TheVariants.{Zero, One}
use Rattle.sectors.specs.Sector.{other_than, read_sector, active}
use Rattle.sectors.specs.Otadata.{readings_of}
use Rattle.sectors.specs.Rewrite.{restated}
use Rattle.partitions.specs.declared.list.App.TheVariants.{OtaSlot}
use Rattle.partitions.specs.PartitionList.{entries_of, slot_count}
use Rattle.node.specs.declared.Settings.{Settings}
use Rattle.node.specs.declared.Node.{Node}
use Rattle.node.specs.declared.refusal.Refusal.{Refusal}
use Rattle.node.specs.declared.refusal.Refusal.TheVariants.{NoFallback, NothingBootable}
use Rattle.boot_choice.specs.Choice.{choice}
use Rattle.slot_records.specs.Placing.{placement}
use Rattle.boot.specs.declared.Start.{Start}
use Rattle.boot_laws.specs.Laws.{Boot, sector, reply as boot_reply, OfImage}
use Rattle.update.specs.declared.Completion.{Completion}
use Rattle.node.specs.Node.{node_of}
use Rattle.node.specs.Refused.{keeping_register}
use Rattle.update.specs.Answer.{register_in, register_given}
use Rattle.update.specs.Tests.{node_with, running_sector, readings_in, changed_at}
use Rattle.update.specs.SetBoot.{new_state, set_boot_reply, set_boot_bytes}
use Rattle.update.specs.Marks.{mark_valid_reply, mark_valid_bytes}
use Rattle.update.specs.Invalid.{mark_invalid_reply, mark_invalid_bytes, giving_register, readings_without}

-- ---- a call

-- what a call is given: the words of the partition list, the flash, otadata, the settings and a slot
pub record Given : Type 0 where
  pub words : List ℕ
  pub flash : List ℕ
  pub otadata : List ℕ
  pub settings : Settings
  pub slot : Slot

-- what a call comes to: its reply, the otadata that it leaves, and the register that its caller gets, refused or done
pub record Outcome (Reply : Type 0) : Type 0 where
  pub reply : Result Reply Refusal
  pub otadata : List ℕ
  pub register : ℕ

abbrev pub set_boot : Given → Outcome Completion
set_boot g =
    record {
      reply = set_boot_reply g.words g.flash g.otadata g.settings g.slot;
      otadata = set_boot_bytes g.words g.flash g.otadata g.settings g.slot;
      register = register_in (keeping_register g.settings (set_boot_reply g.words g.flash g.otadata g.settings g.slot));
    }

abbrev pub mark_valid : Given → Outcome Completion
mark_valid g =
    record {
      reply = mark_valid_reply g.words g.flash g.otadata g.settings g.slot;
      otadata = mark_valid_bytes g.words g.flash g.otadata g.settings g.slot;
      register = register_in (keeping_register g.settings (mark_valid_reply g.words g.flash g.otadata g.settings g.slot));
    }

abbrev pub mark_invalid : Given → Outcome (Unit {0})
mark_invalid g =
    record {
      reply = mark_invalid_reply g.words g.flash g.otadata g.settings g.slot;
      otadata = mark_invalid_bytes g.words g.flash g.otadata g.settings g.slot;
      register = register_given (giving_register g.settings (mark_invalid_reply g.words g.flash g.otadata g.settings g.slot));
    }

-- a boot with the same list, flash and settings, lent this otadata
abbrev pub boot_on : Given → List ℕ → Boot
boot_on g otadata = record { words = g.words; flash = g.flash; otadata = otadata; settings = g.settings }

-- ---- refusals

-- a refusal changes no byte of otadata, and leaves the register as it was given
abbrev pub RefusalKeeps : {Reply : Type 0} → Given → Outcome Reply → Type 0
RefusalKeeps g out = (refusal : Refusal) → out.reply ≡ Err refusal → (out.otadata ≡ g.otadata) × (out.register ≡ g.settings.efuse)

-- of every call
pub record Refusals (g : Given) : Type 0 where
  pub at_set_boot : RefusalKeeps g (set_boot g)
  pub at_mark_valid : RefusalKeeps g (mark_valid g)
  pub at_mark_invalid : RefusalKeeps g (mark_invalid g)

unfoldable pub RefusalLaw : Type 0
RefusalLaw = (g : Given) → Refusals g

-- ---- the register

-- set-boot and mark-invalid leave the register as it was given: only boot and mark-valid raise it
pub record GivesRegister (g : Given) : Type 0 where
  pub at_set_boot : (set_boot g).register ≡ g.settings.efuse
  pub at_mark_invalid : (mark_invalid g).register ≡ g.settings.efuse

unfoldable pub RegisterLaw : Type 0
RegisterLaw = (g : Given) → GivesRegister g

-- ---- what a reply says of the image

-- set-boot and mark-valid give the length and the entry address of the slot's image
abbrev pub GivesImage : Given → Result Completion Refusal → Type 0
GivesImage g reply = (done : Completion) → reply ≡ Ok done → OfImage (boot_on g g.otadata) (OtaSlot g.slot) done.facts.length done.facts.entry

unfoldable pub ImageLaw : Type 0
ImageLaw = (g : Given) → GivesImage g (set_boot g).reply × GivesImage g (mark_valid g).reply

-- ---- after set-boot

-- n, of the list's words
abbrev pub slots_in : List ℕ → ℕ
slots_in words = slot_count (entries_of words)

-- the record of sector k has sequence q, is active and names the slot
pub record Points (g : Given) (left : List ℕ) (k : SectorNumber) (q : Sequence) : Type 0 where
  pub held : Record
  pub is_active : active (readings_of left) ≡ Some k
  pub holds : read_sector (sector k left) ≡ Ok held
  pub of_sequence : held.sequence ≡ q
  pub names : slot_of (slots_in g.words) q ≡ g.slot

-- that record is new: it is where the rules place it, and reads back with its sequence, a label of 20 bytes 0xFF, and state new with
-- rollback on, else undefined; the other sector keeps its bytes
pub record Wrote (g : Given) (left : List ℕ) (k : SectorNumber) (q : Sequence) : Type 0 where
  pub placed : placement (slots_in g.words) g.slot (readings_of g.otadata) ≡ Some (record { sector = k; sequence = q })
  pub reads : read_sector (sector k left) ≡ Ok (record { sequence = q; label = replicate 20 0xFF; state = new_state g.settings })
  pub other : sector (other_than k) left ≡ sector (other_than k) g.otadata

-- an active record names the slot: one that did before, and no byte is changed, or the new one
pub record SetsBoot (g : Given) (left : List ℕ) : Type 0 where
  pub at : SectorNumber
  pub sequence : Sequence
  pub points : Points g left at sequence
  pub wrote : (left ≡ g.otadata) ⊎ Wrote g left at sequence

-- of every set-boot that is done
unfoldable pub SetBootLaw : Type 0
SetBootLaw = (g : Given) (done : Completion) → (set_boot g).reply ≡ Ok done → SetsBoot g (set_boot g).otadata

-- and the next boot, with the same list, flash and settings, starts that slot through that record, with the same facts of its image
unfoldable pub NextBootLaw : Type 0
NextBootLaw =
    (g : Given) (done : Completion) → (set_boot g).reply ≡ Ok done
    → (sets : SetsBoot g (set_boot g).otadata)
    × (boot_reply (boot_on g (set_boot g).otadata)
    ≡ Ok (record { app = OtaSlot g.slot; through = Some sets.at; register = g.settings.efuse; facts = done.facts }))

-- ---- after mark-invalid

-- the next boot, with the same list, flash and settings, starts an app: a node that gives up its app is never left with nothing
unfoldable pub FallbackLaw : Type 0
FallbackLaw = (g : Given) → (mark_invalid g).reply ≡ Ok tt → (start : Start) × (boot_reply (boot_on g (mark_invalid g).otadata) ≡ Ok start)

-- otadata, where the record of sector k is invalid
abbrev pub without : SectorNumber → List ℕ → List ℕ
without k otadata =
    changed_at Zero k (restated Invalid) (take SECTOR_SIZE otadata) ++ changed_at One k (restated Invalid) (drop SECTOR_SIZE otadata)

-- refused with 9 exactly if boot, on the bytes that the mark would leave, finds nothing to start; then no byte is changed, and else those
-- bytes are left
pub record KeepsLastApp (g : Given) (marked : List ℕ) : Type 0 where
  pub exactly : (mark_invalid g).reply ≡ Err NoFallback ↔ boot_reply (boot_on g marked) ≡ Err NothingBootable
  pub outcome : (((mark_invalid g).reply ≡ Err NoFallback) × ((mark_invalid g).otadata ≡ g.otadata))
      ⊎ (((mark_invalid g).reply ≡ Ok tt) × ((mark_invalid g).otadata ≡ marked))

-- of every mark-invalid that comes to that test: its tests 1 to 4 pass, and the active record, of sector k, names the running slot
unfoldable pub LastAppLaw : Type 0
LastAppLaw =
    (g : Given) (node : Node) (k : SectorNumber)
    → node_with g.words g.flash (length g.otadata) g.settings g.slot ≡ Ok node
    → running_sector node (readings_in g.otadata) g.slot ≡ Ok k
    → KeepsLastApp g (without k g.otadata)

-- boot, on otadata where the record of sector k is invalid, finds nothing to start exactly if the readings that mark-invalid looks at leave
-- no choice: of every sector k, whatever it holds and whichever app runs
unfoldable pub FallsBackLaw : Type 0
FallsBackLaw =
    (g : Given) (node : Node) (k : SectorNumber)
    → node_of g.words g.flash (length g.otadata) g.settings ≡ Ok node
    → (boot_reply (boot_on g (without k g.otadata)) ≡ Err NothingBootable
    ↔ choice node (readings_without g.settings k (readings_in g.otadata)) ≡ None)
