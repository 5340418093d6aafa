-- The table's examples of calls assume what can hold.
-- Assumes nothing.
use Rattle.std.proofs.Common.{◌≡◌, ℕ, zero, suc, ◌<◌, true, List, ◌++◌, length, replicate, Some, None, Ok, Err, refl, sym, ap, ◌∙◌, length-append, arith}
use Rattle.std.proofs.lemmas.List.{take_at, length-replicate}
use Rattle.otadata.specs.declared.records.Fault.TheVariants.{Blank}
use Rattle.otadata.specs.declared.states.State.{State}
use Rattle.otadata.specs.declared.states.State.TheVariants.{Pending, Valid, Aborted}
use Rattle.otadata.specs.Record.{read, is_sequence, bytes_of}
use Rattle.otadata.proofs.RoundTrip.{read_bytes_of}
use Rattle.sectors.specs.declared.reading.SectorNumber.{SectorNumber}
use Rattle.sectors.specs.declared.reading.SectorNumber.TheVariants.{Zero, One}
use Rattle.sectors.specs.Sector.{other_than, read_sector, usable_sequence}
use Rattle.sectors.proofs.Cuts.{record_in-sized}
use Rattle.sectors.proofs.Restating.{length-bytes_of}
use Rattle.partitions.specs.PartitionList.{slot_count}
use Rattle.app_image.specs.declared.Facts.{Facts}
use Rattle.app_image.specs.Example.{one_segment_facts}
use Rattle.boot_choice.specs.Example.{example_list, example_flash, example_settings, example_node}
use Rattle.boot_choice.proofs.Examples.{is_node, passes_0, passes_1}
use Rattle.boot_laws.specs.Laws.{sector}
use Rattle.boot_laws.specs.PowerCut.{otadata_of}
use Rattle.boot_laws.proofs.PowerCut.{otadata_size, own_sector, other_sector}
use Rattle.update_laws.proofs.Activity.{is_highest}
use Rattle.update_laws.proofs.Pointing.{reads_sector}
use Rattle.worked_examples.specs.Table.{held, Accepts, ActiveIs}
use Rattle.worked_examples.specs.Witness.{record_of, holding, blank, Witness}

-- ---- the node

two_slots : slot_count example_node.list.entries ≡ 2
unfolding slot_count
two_slots = refl

example : (s : ℕ) → s < 2 → (facts : Facts) × Accepts example_list example_flash example_settings 2 s facts
example zero below = (one_segment_facts, record { node = example_node; accepted = is_node; slots = two_slots; passes = passes_0 })
example (suc zero) below = (one_segment_facts, record { node = example_node; accepted = is_node; slots = two_slots; passes = passes_1 })
example (suc (suc s)) below = absurd (omega arith)

-- ---- the sectors

rest_size : length {A = ℕ} (replicate 4064 255) ≡ 4064
rest_size = length-replicate {A = ℕ} 4064 255

-- a sector that begins with 32 bytes
module _ (bytes : List ℕ) (size : length bytes ≡ 32) where
  sector_size : length (bytes ++ replicate 4064 255) ≡ 4096
  sector_size = omega (arith, length-append bytes (replicate 4064 255), size, rest_size)

  sector_reads : read_sector (bytes ++ replicate 4064 255) ≡ read bytes
  sector_reads = ap read (record_in-sized (bytes ++ replicate 4064 255) sector_size ∙ take_at bytes (replicate 4064 255) 32 size)

holding_bytes : (q : ℕ) (state : State) → length (bytes_of (record_of q state)) ≡ 32
holding_bytes q state = length-bytes_of (record_of q state) refl

holding_reads : (q : ℕ) (state : State) → is_sequence q ≡ true → read_sector (holding q state) ≡ Ok (record_of q state)
holding_reads q state right = sector_reads (bytes_of (record_of q state)) (holding_bytes q state) ∙ read_bytes_of (record_of q state) refl right

erased_record : read (replicate 32 255) ≡ Err Blank
unfolding read
erased_record = refl

blank_reads : read_sector blank ≡ Err Blank
blank_reads = sector_reads (replicate 32 255) refl ∙ erased_record

blank_size : length blank ≡ 4096
blank_size = sector_size (replicate 32 255) refl

holding_size : (q : ℕ) (state : State) → length (holding q state) ≡ 4096
holding_size q state = sector_size (bytes_of (record_of q state)) (holding_bytes q state)

valid_not_pending : Valid ≡ Pending → ⊥
valid_not_pending is = cc

alone : (k : SectorNumber) (q : ℕ) → is_sequence q ≡ true → ActiveIs example_settings (otadata_of k (holding q Valid) blank) k q
alone k q right =
    let o = otadata_of k (holding q Valid) blank in
    let own : read_sector (sector k o) ≡ Ok (record_of q Valid) =
    ap read_sector (own_sector (holding q Valid) blank (holding_size q Valid) blank_size k) ∙ holding_reads q Valid right in
    let beside : read_sector (sector (other_than k) o) ≡ Err Blank =
    ap read_sector (other_sector (holding q Valid) blank (holding_size q Valid) blank_size k) ∙ blank_reads in
    record {
      size = otadata_size (holding q Valid) blank (holding_size q Valid) blank_size k;
      state = Valid;
      is_active = is_highest (record { 0 = q }) (read_sector (sector Zero o)) (read_sector (sector One o)) k
          (ap usable_sequence (reads_sector o k ∙ own))
          (λ p is. absurd (let z : None ≡ Some p = sym (ap usable_sequence (reads_sector o (other_than k) ∙ beside)) ∙ is in cc));
      holds = ap held own;
      not_pending = λ on. valid_not_pending;
    }

pub witness : Witness
witness =
    record {
      node = example;
      active_alone = alone;
      two_records = λ (k : SectorNumber).
          record {
            size = otadata_size (holding 4 Valid) (holding 5 Aborted) (holding_size 4 Valid) (holding_size 5 Aborted) k;
            own = ap held (ap read_sector (own_sector (holding 4 Valid) (holding 5 Aborted) (holding_size 4 Valid) (holding_size 5 Aborted) k) ∙ holding_reads 4 Valid refl);
            beside = ap held (ap read_sector (other_sector (holding 4 Valid) (holding 5 Aborted) (holding_size 4 Valid) (holding_size 5 Aborted) k) ∙ holding_reads 5 Aborted refl);
          };
    }
