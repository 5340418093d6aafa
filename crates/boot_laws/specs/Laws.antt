-- What holds of every boot, on any bytes.
use Rattle.std.specs.Prelude.{ℕ, ◌≤◌, ◌≡◌, ◌≢◌, true, false, List, ◌++◌, ◌⊎◌, map, length, IsSome, Some, Result, Ok, Err}
use Rattle.otadata.specs.declared.records.Record.{Record}
use Rattle.otadata.specs.declared.states.State.{State}
use Rattle.otadata.specs.declared.states.State.TheVariants.{New, Pending, Valid, Invalid, Aborted, Undefined}
use Rattle.otadata.specs.Record.{Reading}
use Rattle.sectors.specs.declared.reading.SectorNumber.{SectorNumber}
use Rattle.sectors.specs.Sector.{number_of_sector, read_sector, usable_sequence}
use Rattle.sectors.specs.Otadata.{sector_at, readings_of}
use Rattle.partitions.specs.declared.list.App.{App}
use Rattle.app_image.specs.declared.Facts.{Facts}
use Rattle.app_image.specs.Check.{check}
use Rattle.app_image.specs.Laws.{Fits}
use Rattle.node.specs.declared.Settings.{Settings}
use Rattle.node.specs.declared.Node.{Node}
use Rattle.node.specs.declared.refusal.Refusal.{Refusal}
use Rattle.node.specs.Node.{node_of, image}
use Rattle.node.specs.Refusal.{number_of}
use Rattle.node.specs.Settings.{efuse_version}
use Rattle.boot_choice.specs.Choice.{choice}
use Rattle.boot.specs.declared.Start.{Start}
use Rattle.boot.specs.Boot.{first_of, second_of, reply_by, boot_reply, boot_bytes, Accepts}
use Rattle.boot.specs.Answer.{register_of}

-- ---- a boot

-- what it is lent: the words of the partition list, the flash, otadata, and the settings
pub record Boot : Type 0 where
  pub words : List ℕ
  pub flash : List ℕ
  pub otadata : List ℕ
  pub settings : Settings

-- the node that it accepts, or the refusal of the first three tests
abbrev pub accepted : Boot → Result Node Refusal
accepted boot = node_of boot.words boot.flash (length boot.otadata) boot.settings

-- its reply, and the otadata that it leaves
abbrev pub reply : Boot → Result Start Refusal
reply boot = boot_reply boot.words boot.flash boot.otadata boot.settings

abbrev pub left : Boot → List ℕ
left boot = boot_bytes boot.words boot.flash boot.otadata boot.settings

-- sector k of otadata
abbrev pub sector : SectorNumber → List ℕ → List ℕ
sector k otadata = sector_at (number_of_sector k) otadata

-- otadata as step 1 leaves it
abbrev pub marked : Settings → List ℕ → List ℕ
marked settings otadata = first_of settings otadata ++ second_of settings otadata

-- ---- which app is started

-- the record of sector k is good, and neither invalid nor aborted
abbrev pub UsableAt : SectorNumber → List ℕ → Type 0
UsableAt k otadata = IsSome (usable_sequence (read_sector (sector k otadata)))

-- a start through a record: that record is usable in otadata as it was, and as it is left
abbrev pub ThroughUsable : Boot → Type 0
ThroughUsable boot =
    (start : Start) (k : SectorNumber)
    → reply boot ≡ Ok start → start.through ≡ Some k → UsableAt k boot.otadata × UsableAt k (left boot)

-- an app of the accepted node, whose image is accepted and, with anti-rollback on, not below the eFuse version
pub record NotBelow (boot : Boot) (app : App) : Type 0 where
  pub node : Node
  pub of_boot : accepted boot ≡ Ok node
  pub facts : Facts
  pub is_accepted : check (image node app) boot.settings.board ≡ Ok facts
  pub not_below : boot.settings.anti_rollback ≡ true → efuse_version boot.settings ≤ facts.version.0

-- a boot that starts an app starts such a one
abbrev pub StartsNotBelow : Boot → Type 0
StartsNotBelow boot = (start : Start) → reply boot ≡ Ok start → NotBelow boot start.app

-- boot never starts through an invalid or aborted record, nor, with anti-rollback on, an app below the eFuse version
pub record Never (boot : Boot) : Type 0 where
  pub through_usable : ThroughUsable boot
  pub not_below : StartsNotBelow boot

unfoldable pub NeverLaw : Type 0
NeverLaw = (boot : Boot) → Never boot

-- ---- what a start says of the image

-- the length and the entry address are those of an app's image, which is accepted, so that it fits the board, and ends within the app's part
-- of the flash
pub record OfImage (boot : Boot) (app : App) (size entry : ℕ) : Type 0 where
  pub node : Node
  pub of_boot : accepted boot ≡ Ok node
  pub facts : Facts
  pub is_accepted : check (image node app) boot.settings.board ≡ Ok facts
  pub fits : Fits (image node app) boot.settings.board
  pub same_length : size ≡ facts.length
  pub same_entry : entry ≡ facts.entry
  pub within : size ≤ length (image node app)

-- a boot that starts an app gives those of its image
unfoldable pub ImageLaw : Type 0
ImageLaw = (boot : Boot) (start : Start) → reply boot ≡ Ok start → OfImage boot start.app start.facts.length start.facts.entry

-- ---- when a boot is refused

-- where boot accepts, with 10 only; where it does not, with 1, 2 or 3
pub record Refuses (accepts : Type 0) (reply : Result Start Refusal) : Type 0 where
  pub accepting : accepts → (refusal : Refusal) → reply ≡ Err refusal → number_of refusal ≡ 10
  pub not_accepting : (accepts → ⊥) → (refusal : Refusal) × ((reply ≡ Err refusal) × (1 ≤ number_of refusal) × (number_of refusal ≤ 3))

unfoldable pub AcceptanceLaw : Type 0
AcceptanceLaw = (boot : Boot) → Refuses (Accepts boot.words boot.flash (length boot.otadata) boot.settings) (reply boot)

-- ---- what a refusal changes

-- the register comes back as given; 10 keeps the aborted marks, and any other refusal changes no byte
pub record RefusalKeeps (boot : Boot) (refusal : Refusal) : Type 0 where
  pub register : register_of boot.settings (reply boot) ≡ boot.settings.efuse
  pub marks : number_of refusal ≡ 10 → left boot ≡ marked boot.settings boot.otadata
  pub nothing : number_of refusal ≢ 10 → left boot ≡ boot.otadata

unfoldable pub RefusalLaw : Type 0
RefusalLaw = (boot : Boot) (refusal : Refusal) → reply boot ≡ Err refusal → RefusalKeeps boot refusal

-- ---- what a boot changes

-- pending to aborted, or new to pending
abbrev pub Change : State → State → Type 0
Change old now = ((old ≡ Pending) × (now ≡ Aborted)) ⊎ ((old ≡ New) × (now ≡ Pending))

-- the one sector holds the record of the other in another state: sequence and label are the same
pub record OtherState (before after : List ℕ) : Type 0 where
  pub old : Record
  pub now : State
  pub was : read_sector before ≡ Ok old
  pub is : read_sector after ≡ Ok (record old { state = now })
  pub change : Change old.state now

-- each sector keeps all its bytes, or its record gets another state; with rollback off nothing is changed
pub record OnlyStates (boot : Boot) : Type 0 where
  pub size : length (left boot) ≡ length boot.otadata
  pub sectors : (k : SectorNumber) → (sector k (left boot) ≡ sector k boot.otadata) ⊎ OtherState (sector k boot.otadata) (sector k (left boot))
  pub without_rollback : boot.settings.rollback ≡ false → left boot ≡ boot.otadata

unfoldable pub StateLaw : Type 0
StateLaw = (boot : Boot) → OnlyStates boot

-- ---- with rollback off

-- new and pending are treated as undefined
abbrev pub counted_state : State → State
counted_state New = Undefined
counted_state Pending = Undefined
counted_state Valid = Valid
counted_state Invalid = Invalid
counted_state Aborted = Aborted
counted_state Undefined = Undefined

abbrev pub counted : Reading → Reading
counted (Ok r) = Ok (record r { state = counted_state r.state })
counted (Err fault) = Err fault

-- the reply is the one that the same records get with undefined in place of new and pending
unfoldable pub WithoutRollback : Type 0
WithoutRollback =
    (boot : Boot) (node : Node)
    → boot.settings.rollback ≡ false → accepted boot ≡ Ok node
    → (let counted_readings = map counted (readings_of boot.otadata) in
    reply boot ≡ reply_by boot.settings counted_readings (choice node counted_readings))
