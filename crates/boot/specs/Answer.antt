-- A boot in numbers: 0 or the number of the refusal, and the values of the reply.
use Rattle.std.specs.Prelude.{ℕ, ◌≡◌, List, [], ◌∷◌, ◌++◌, slice_index, Option, Some, None, Result, Ok, Err}
use Rattle.otadata.specs.declared.records.Slot.{Slot}
use Rattle.otadata.specs.Record.{Reading}
use Rattle.otadata.specs.Number.{reply_number}
use Rattle.otadata.specs.Answer.{Answer}
use Rattle.sectors.specs.declared.reading.SectorNumber.{SectorNumber}
use Rattle.sectors.specs.declared.reading.SectorNumber.TheVariants.{Zero, One}
use Rattle.partitions.specs.declared.list.App.{App}
use Rattle.partitions.specs.declared.list.App.TheVariants.{Factory as FactoryApp, OtaSlot}
use Rattle.app_image.specs.declared.Facts.{Facts}
use Rattle.node.specs.declared.Settings.{Settings}
use Rattle.node.specs.declared.refusal.Refusal.{Refusal}
use Rattle.node.specs.declared.refusal.Refused.{Refused}
use Rattle.node.specs.Refusal.{number_of}
use Rattle.node.specs.Refused.{number_of_refused, keeping_register}
use Rattle.boot_choice.specs.declared.Choice.TheVariants.{Recorded, Factory, Found}
use Rattle.boot.specs.declared.Start.{Start}
use Rattle.boot.specs.Boot.{register_after, reply_by}

-- 1 for factory, 2 for a slot; then the slot
abbrev pub app_values : App → List ℕ
app_values FactoryApp = 1 ∷ 0 ∷ []
app_values (OtaSlot slot) = 2 ∷ slot.0 ∷ []

-- the sector, 2 for none
abbrev pub sector_value : Option SectorNumber → ℕ
sector_value (Some Zero) = 0
sector_value (Some One) = 1
sector_value None = 2

-- factory or slot, the slot, the sector used or none, the register, and the length and the entry address of the image
abbrev pub start_values : Start → List ℕ
start_values start =
    app_values start.app ++ (sector_value start.through ∷ start.register ∷ start.facts.length ∷ start.facts.entry ∷ [])

-- a refusal names no app, no slot and no sector, returns the register, and has zero for length and entry
abbrev pub answer_to : Result Start Refused → Answer
answer_to (Ok start) = record { number = 0; values = start_values start }
answer_to (Err refused) = record { number = number_of_refused refused; values = 0 ∷ 0 ∷ 2 ∷ refused.register ∷ 0 ∷ 0 ∷ [] }

abbrev pub answer_of : Settings → Result Start Refusal → Answer
answer_of settings reply = answer_to (keeping_register settings reply)

-- the register after a boot: a refusal returns it as it was given
abbrev pub register_in : Result Start Refused → ℕ
register_in (Ok start) = start.register
register_in (Err refused) = refused.register

abbrev pub register_of : Settings → Result Start Refusal → ℕ
register_of settings reply = register_in (keeping_register settings reply)

-- ---- the law

-- the answer to a choice: 0, with 2, the slot and the sector of a record's app, 1, 0 and 2 of factory, 2, the slot and 2 of the last
-- search's, then register, length and entry address; nothing bootable is refused with 10
pub record AnswerLaw : Type 0 where
  pub through_0 : (settings : Settings) (readings : List Reading) (slot : Slot) (facts : Facts)
      → answer_of settings (reply_by settings readings (Some (Recorded Zero slot facts)))
      ≡ record { number = 0; values = 2 ∷ slot.0 ∷ 0 ∷ settings.efuse ∷ facts.length ∷ facts.entry ∷ [] }
  pub through_1 : (settings : Settings) (readings : List Reading) (slot : Slot) (facts : Facts)
      → answer_of settings (reply_by settings readings (Some (Recorded One slot facts)))
      ≡ record { number = 0; values = 2 ∷ slot.0 ∷ 1 ∷ settings.efuse ∷ facts.length ∷ facts.entry ∷ [] }
  pub factory : (settings : Settings) (readings : List Reading) (facts : Facts)
      → answer_of settings (reply_by settings readings (Some (Factory facts)))
      ≡ record { number = 0; values = 1 ∷ 0 ∷ 2 ∷ settings.efuse ∷ facts.length ∷ facts.entry ∷ [] }
  pub found : (settings : Settings) (readings : List Reading) (slot : Slot) (facts : Facts)
      → answer_of settings (reply_by settings readings (Some (Found slot facts)))
      ≡ record { number = 0; values = 2 ∷ slot.0 ∷ 2 ∷ register_after settings readings (Found slot facts) ∷ facts.length ∷ facts.entry ∷ [] }
  pub nothing : (settings : Settings) (readings : List Reading)
      → answer_of settings (reply_by settings readings None) ≡ record { number = 10; values = 0 ∷ 0 ∷ 2 ∷ settings.efuse ∷ 0 ∷ 0 ∷ [] }
  pub refused : (settings : Settings) (refusal : Refusal)
      → answer_of settings (Err refusal) ≡ record { number = number_of refusal; values = 0 ∷ 0 ∷ 2 ∷ settings.efuse ∷ 0 ∷ 0 ∷ [] }
  pub number : (settings : Settings) (reply : Result Start Refusal) → (answer_of settings reply).number ≡ reply_number number_of reply
  pub register : (settings : Settings) (reply : Result Start Refusal) → slice_index (answer_of settings reply).values 3 ≡ register_of settings reply
