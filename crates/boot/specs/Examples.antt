-- The definitions of boot on examples.
use Rattle.std.specs.Prelude.{ℕ, ◌≡◌, true, List, [], ◌∷◌, Some, None, Ok, Err}
use Rattle.otadata.specs.declared.records.Slot.{Slot}
use Rattle.otadata.specs.declared.records.Fault.{Fault}
use Rattle.otadata.specs.declared.states.State.{State}
use Rattle.otadata.specs.declared.states.State.TheVariants.{New, Valid, Aborted}
use Rattle.otadata.specs.Record.{Reading}
use Rattle.sectors.specs.declared.reading.SectorNumber.TheVariants.{Zero, One}
use Rattle.sectors.specs.Sector.{active}
use Rattle.partitions.specs.declared.list.App.TheVariants.{Factory as FactoryApp, OtaSlot}
use Rattle.app_image.specs.declared.Facts.{Facts}
use Rattle.app_image.specs.Example.{board_of}
use Rattle.node.specs.declared.Settings.{Settings}
use Rattle.node.specs.declared.Node.{Node}
use Rattle.node.specs.Node.{otadata_size, passing}
use Rattle.boot_choice.specs.declared.Choice.TheVariants.{Recorded, Found}
use Rattle.boot_choice.specs.Choice.{slots_of, Passes, choice}
use Rattle.boot_choice.specs.Example.{example_list, example_flash, example_settings}
use Rattle.boot.specs.Boot.{register_after, Accepts}

abbrev pub slot_1 : Slot
slot_1 = record { 0 = 1 }

-- what a good record of that sequence, state and label reads as
abbrev pub good : ℕ → State → List ℕ → Reading
good q state label = Ok (record { sequence = record { 0 = q }; label = label; state = state })

-- what a sector without a good record reads as, by what is wrong there
abbrev pub no_record : Fault → Reading
no_record fault = Err fault

-- ---- a fall back

-- sequences 4 valid and 5 aborted, n = 2, slot 1 passes: slot 1 through sequence 4, whichever sector holds it
pub record ThroughFour (node : Node) (facts : Facts) (a b : List ℕ) : Type 0 where
  pub in_sector_0 : choice node (good 4 Valid a ∷ good 5 Aborted b ∷ []) ≡ Some (Recorded Zero slot_1 facts)
  pub in_sector_1 : choice node (good 5 Aborted b ∷ good 4 Valid a ∷ []) ≡ Some (Recorded One slot_1 facts)

abbrev pub FallsBack : Type 0
FallsBack =
    (node : Node) (a b : List ℕ) → slots_of node ≡ 2 → Passes node (OtaSlot slot_1) → (facts : Facts) × ThroughFour node facts a b

-- ---- the last search

-- it passes over slot 0, which an aborted record names, and takes slot 1, where factory does not pass; whatever is wrong in sector 1
abbrev pub PassesOver : Type 0
PassesOver =
    (node : Node) (facts : Facts) (b : Fault) → slots_of node ≡ 2 → passing node (OtaSlot slot_1) ≡ Some facts → passing node FactoryApp ≡ None
    → choice node (good 5 Aborted [] ∷ no_record b ∷ []) ≡ Some (Found slot_1 facts)

-- ---- the register

abbrev pub protected : ℕ → ℕ → Settings
protected chip efuse = record { board = board_of chip 0; efuse = efuse; rollback = true; anti_rollback = true }

-- the last search raises the register to its app's version, 4, while neither sector holds a good record, whatever is wrong in each; above
-- the width of the chip the ones neither count nor change
pub record Raises (a b : Fault) (facts : Facts) : Type 0 where
  pub on_32_bits : register_after (protected 0 0x0B) (no_record a ∷ no_record b ∷ []) (Found slot_1 facts) ≡ 0x0F
  pub on_16_bits : register_after (protected 16 0xFFFF000B) (no_record a ∷ no_record b ∷ []) (Found slot_1 facts) ≡ 0xFFFF000F
  pub not_with_a_record : (chip : ℕ) → register_after (protected chip 0x0B) (no_record a ∷ good 5 Aborted [] ∷ []) (Found slot_1 facts) ≡ 0x0B

-- ---- all of them

pub record BootExamples : Type 0 where
  pub falls_back : FallsBack
  pub passes_over : PassesOver
  pub raises : (a b : Fault) (facts : Facts) → facts.version.0 ≡ 4 → Raises a b facts
  -- the higher sequence is active, and sector 0 on a tie
  pub higher : active (good 4 Valid [] ∷ good 5 New [] ∷ []) ≡ Some One
  pub tie : active (good 4 Valid [] ∷ good 4 New [] ∷ []) ≡ Some Zero
  -- boot accepts the example node, and no node with an empty list
  pub accepts : Accepts example_list example_flash otadata_size example_settings
  pub no_list : (flash : List ℕ) → Accepts [] flash otadata_size example_settings → ⊥
