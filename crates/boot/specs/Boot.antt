-- Boot: its four steps, its reply, and the bytes that it leaves. The choice is that of boot_choice.
use Rattle.std.specs.Prelude.{ℕ, Bool, ◌&&◌, is_err, List, ◌++◌, length, take, drop, IsOk, Option, Some, None, Result, Ok, Err, if◌then◌else◌}
use Rattle.std.specs.List.{list_all}
use Rattle.otadata.specs.declared.states.State.{State}
use Rattle.otadata.specs.declared.states.State.TheVariants.{New, Pending, Aborted}
use Rattle.otadata.specs.Record.{Reading, in_state}
use Rattle.sectors.specs.declared.TheConstants.{SECTOR_SIZE}
use Rattle.sectors.specs.declared.reading.SectorNumber.{SectorNumber}
use Rattle.sectors.specs.declared.reading.SectorNumber.TheVariants.{Zero, One}
use Rattle.sectors.specs.Sector.{read_sector, readings}
use Rattle.sectors.specs.Rewrite.{restated}
use Rattle.partitions.specs.declared.list.App.TheVariants.{Factory as FactoryApp, OtaSlot}
use Rattle.node.specs.declared.Settings.{Settings}
use Rattle.node.specs.declared.Node.{Node}
use Rattle.node.specs.declared.refusal.Refusal.{Refusal}
use Rattle.node.specs.declared.refusal.Refusal.TheVariants.{NothingBootable}
use Rattle.node.specs.Settings.{raised_to}
use Rattle.node.specs.Node.{node_of}
use Rattle.boot_choice.specs.declared.Choice.{Choice}
use Rattle.boot_choice.specs.declared.Choice.TheVariants.{Recorded, Factory, Found}
use Rattle.boot_choice.specs.Choice.{choice}
use Rattle.boot.specs.declared.Start.{Start}

-- ---- step 1: pending records become aborted

-- with rollback on, a good record in the one state is rewritten in the other
unfoldable pub marked : Settings → State → State → List ℕ → List ℕ
marked settings from to sector =
    if settings.rollback && in_state from (read_sector sector) then restated to sector else sector

-- a sector after step 1
unfoldable pub settled : Settings → List ℕ → List ℕ
settled settings sector = marked settings Pending Aborted sector

-- ---- step 2: the choice, by what the sectors read as after step 1

-- the sector whose record the choice came through
abbrev pub sector_of : Choice → Option SectorNumber
sector_of (Recorded k slot facts) = Some k
sector_of (Factory facts) = None
sector_of (Found slot facts) = None

-- ---- step 3: a new record that the choice came through becomes pending

-- sector k, marked where the choice came through it
abbrev pub pended_at : Settings → SectorNumber → Option SectorNumber → List ℕ → List ℕ
pended_at settings Zero (Some Zero) sector = marked settings New Pending sector
pended_at settings One (Some One) sector = marked settings New Pending sector
pended_at settings _ _ sector = sector

abbrev pub pended_by : Settings → SectorNumber → Option Choice → List ℕ → List ℕ
pended_by settings k None sector = sector
pended_by settings k (Some made) sector = pended_at settings k (sector_of made) sector

-- ---- step 4: the register

-- neither sector holds a good record
abbrev pub hold_no_good : List Reading → Bool
hold_no_good readings = list_all is_err readings

-- with anti-rollback on, the last search then raises it to its app's version
abbrev pub register_after : Settings → List Reading → Choice → ℕ
register_after settings readings (Recorded k slot facts) = settings.efuse
register_after settings readings (Factory facts) = settings.efuse
register_after settings readings (Found slot facts) =
    if settings.anti_rollback && hold_no_good readings then raised_to settings facts.version else settings.efuse

-- ---- the reply

abbrev pub start_of : Settings → List Reading → Choice → Start
start_of settings readings (Recorded k slot facts) =
    record { app = OtaSlot slot; through = Some k; register = settings.efuse; facts = facts }
start_of settings readings (Factory facts) =
    record { app = FactoryApp; through = None; register = settings.efuse; facts = facts }
start_of settings readings (Found slot facts) =
    record { app = OtaSlot slot; through = None; register = register_after settings readings (Found slot facts); facts = facts }

-- nothing to start is refused with 10
abbrev pub reply_by : Settings → List Reading → Option Choice → Result Start Refusal
reply_by settings readings None = Err NothingBootable
reply_by settings readings (Some made) = Ok (start_of settings readings made)

-- ---- steps 2 to 4, of the sectors as step 1 left them

unfoldable pub reply_to : Node → List ℕ → List ℕ → Result Start Refusal
reply_to node first second = reply_by node.settings (readings first second) (choice node (readings first second))

unfoldable pub first_left : Node → List ℕ → List ℕ → List ℕ
first_left node first second = pended_by node.settings Zero (choice node (readings first second)) first

unfoldable pub second_left : Node → List ℕ → List ℕ → List ℕ
second_left node first second = pended_by node.settings One (choice node (readings first second)) second

-- ---- boot

-- the sectors of otadata after step 1
abbrev pub first_of : Settings → List ℕ → List ℕ
first_of settings otadata = settled settings (take SECTOR_SIZE otadata)

abbrev pub second_of : Settings → List ℕ → List ℕ
second_of settings otadata = settled settings (drop SECTOR_SIZE otadata)

-- a refusal of the first tests changes nothing
abbrev pub reply_of : List ℕ → Result Node Refusal → Result Start Refusal
reply_of otadata (Err refusal) = Err refusal
reply_of otadata (Ok node) = reply_to node (first_of node.settings otadata) (second_of node.settings otadata)

abbrev pub bytes_left : List ℕ → Result Node Refusal → List ℕ
bytes_left otadata (Err refusal) = otadata
bytes_left otadata (Ok node) =
    first_left node (first_of node.settings otadata) (second_of node.settings otadata)
    ++ second_left node (first_of node.settings otadata) (second_of node.settings otadata)

unfoldable pub boot_reply : List ℕ → List ℕ → List ℕ → Settings → Result Start Refusal
boot_reply words flash otadata settings = reply_of otadata (node_of words flash (length otadata) settings)

unfoldable pub boot_bytes : List ℕ → List ℕ → List ℕ → Settings → List ℕ
boot_bytes words flash otadata settings = bytes_left otadata (node_of words flash (length otadata) settings)

-- boot accepts where the first three tests pass
abbrev pub Accepts : List ℕ → List ℕ → ℕ → Settings → Type 0
Accepts words flash size settings = IsOk (node_of words flash size settings)
