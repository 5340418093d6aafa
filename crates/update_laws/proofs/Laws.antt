-- What set-boot leaves names the slot, and the next boot starts it; what mark-invalid leaves starts another app.
use Rattle.std.proofs.Common.{◌≡◌, ◌↔◌, ℕ, ◌<◌, ◌==◌, ◌&&◌, Bool, true, false, is_some, is_none, if◌then◌else◌, List, ◌++◌, length, take, drop, take-append-drop, Option, Some, None, option_and_then, Result, Ok, Err, inl, inr, refl, sym, ap, ap₂, subst, ◌∙◌, eqb-true}
use Rattle.std.proofs.lemmas.List.{drop_at}
use Rattle.otadata.specs.declared.records.Record.{Record}
use Rattle.otadata.specs.declared.records.Sequence.{Sequence}
use Rattle.otadata.specs.declared.records.Slot.{Slot}
use Rattle.otadata.specs.declared.states.State.{State}
use Rattle.otadata.specs.declared.states.State.TheVariants.{New, Pending, Valid, Invalid, Aborted, Undefined}
use Rattle.otadata.specs.State.{word_of}
use Rattle.otadata.specs.Record.{Reading, slot_of, is_sequence}
use Rattle.sectors.specs.declared.reading.SectorNumber.{SectorNumber}
use Rattle.sectors.specs.declared.reading.SectorNumber.TheVariants.{Zero, One}
use Rattle.sectors.specs.Sector.{other_than, read_sector, readings, usable_sequence, active}
use Rattle.sectors.specs.Otadata.{readings_of}
use Rattle.sectors.specs.Rewrite.{restated}
use Rattle.sectors.proofs.Restating.{restated_reads, length-restated}
use Rattle.partitions.specs.declared.list.App.TheVariants.{OtaSlot}
use Rattle.app_image.specs.declared.Facts.{Facts}
use Rattle.app_image.specs.Laws.{AcceptedFits, AcceptedWithin}
use Rattle.app_image.proofs.Acceptance.{accepted_fits, accepted_within}
use Rattle.node.specs.declared.Settings.{Settings}
use Rattle.node.specs.declared.Node.{Node}
use Rattle.node.specs.declared.refusal.Refusal.{Refusal}
use Rattle.node.specs.declared.refusal.Refusal.TheVariants.{NoFallback, NothingBootable}
use Rattle.node.specs.Node.{node_of, admitted, passing}
use Rattle.node.specs.Refusal.{◌>>◌, refuse_if}
use Rattle.boot_choice.specs.declared.Choice.{Choice}
use Rattle.boot_choice.specs.Choice.{slots_of, choice}
use Rattle.boot.specs.Boot.{settled, start_of, reply_by}
use Rattle.boot_laws.specs.Laws.{sector, accepted, reply as boot_reply, OfImage}
use Rattle.boot_laws.proofs.Choices.{reading_at}
use Rattle.boot_laws.proofs.Boots.{both_sizes, first_sector, second_sector, first_size, second_size, second_is, accepted_is, after_marks, reply_accepted}
use Rattle.slot_records.specs.declared.Placement.{Placement}
use Rattle.slot_records.specs.Naming.{names, active_at, active_naming, active_pending}
use Rattle.slot_records.specs.Placing.{placement, Placed, PlacementLaw}
use Rattle.slot_records.proofs.Placed.{placement_law}
use Rattle.update.specs.declared.Completion.{Completion}
use Rattle.update.specs.Tests.{node_with, running_sector, readings_in, changed_at}
use Rattle.update.specs.SetBoot.{new_record, overwritten, if_placed, new_placement, written_at}
use Rattle.update.specs.Invalid.{settled_reading, readings_without, invalidation, reply_to as invalid_reply_to, left_at as invalid_left_at, mark_invalid_reply, mark_invalid_bytes}
use Rattle.update_laws.specs.Laws.{Given, set_boot, mark_invalid, boot_on, slots_in, SetsBoot, ImageLaw, SetBootLaw, NextBootLaw, FallbackLaw, without, KeepsLastApp, LastAppLaw, FallsBackLaw}
use Rattle.update_laws.proofs.Nodes.{passed, slots_are, image_admitted, admitted_passes}
use Rattle.update_laws.proofs.Done.{with_slot, SetDone, set_done, valid_done, invalid_done}
use Rattle.update_laws.proofs.Activity.{is_highest, of_active}
use Rattle.update_laws.proofs.Restating.{settled_reads, length-overwritten, overwritten_reads}
use Rattle.update_laws.proofs.Pointing.{reads_sector, starts_active, new_usable, new_not_pending, below_by}

-- ---- the two sectors

pub same_readings : (otadata : List ℕ) → length otadata ≡ 8192 → readings_in otadata ≡ readings_of otadata
same_readings otadata size = ap (λ (s : List ℕ). readings (take 4096 otadata) s) (sym (second_is otadata size))

-- one sector is changed, and keeps its size
module _ (change : List ℕ → List ℕ) (keeps : (s : List ℕ) → length (change s) ≡ length s) where
  size_at : (k j : SectorNumber) (s : List ℕ) → length (changed_at k j change s) ≡ length s
  size_at Zero Zero s = keeps s
  size_at Zero One s = refl
  size_at One Zero s = refl
  size_at One One s = keeps s

  changes_own : (j : SectorNumber) (s : List ℕ) → changed_at j j change s ≡ change s
  changes_own Zero s = refl
  changes_own One s = refl

  keeps_other : (j : SectorNumber) (s : List ℕ) → changed_at (other_than j) j change s ≡ s
  keeps_other Zero s = refl
  keeps_other One s = refl

  module _ (j : SectorNumber) (otadata : List ℕ) (size : length otadata ≡ 8192) where
    abbrev pub first_part : List ℕ
    first_part = changed_at Zero j change (take 4096 otadata)

    abbrev pub second_part : List ℕ
    second_part = changed_at One j change (drop 4096 otadata)

    pub first_part_size : length first_part ≡ 4096
    first_part_size = size_at Zero j (take 4096 otadata) ∙ first_size otadata size

    pub second_part_size : length second_part ≡ 4096
    second_part_size = size_at One j (drop 4096 otadata) ∙ second_size otadata size

    pub changed_size : length (first_part ++ second_part) ≡ 8192
    changed_size = both_sizes first_part second_part first_part_size second_part_size

    changed_sector : (k : SectorNumber) → sector k (first_part ++ second_part) ≡ changed_at k j change (sector k otadata)
    changed_sector Zero = first_sector first_part second_part first_part_size second_part_size
    changed_sector One = second_sector first_part second_part first_part_size second_part_size ∙ ap (changed_at One j change) (sym (second_is otadata size))

    pub own_changed : sector j (first_part ++ second_part) ≡ change (sector j otadata)
    own_changed = changed_sector j ∙ changes_own j (sector j otadata)

    pub other_kept : sector (other_than j) (first_part ++ second_part) ≡ sector (other_than j) otadata
    other_kept = changed_sector (other_than j) ∙ keeps_other j (sector (other_than j) otadata)

sector_size : (k : SectorNumber) (otadata : List ℕ) → length otadata ≡ 8192 → length (sector k otadata) ≡ 4096
sector_size Zero otadata size = first_size otadata size
sector_size One otadata size = ap length (second_is otadata size) ∙ second_size otadata size

-- ---- a new record was written

pub placed_by : (b : Bool) (p : Option Placement) (placed : Placement) → (if b then Ok None else if_placed p) ≡ Ok (Some placed) → p ≡ Some placed
placed_by true p placed is = cc
placed_by false None placed is = cc
placed_by false (Some found) placed is = cc

named_by : (b : Bool) (p : Option Placement) → (if b then Ok None else if_placed p) ≡ Ok None → b ≡ true
named_by true p is = refl
named_by false None is = cc
named_by false (Some found) is = cc

-- the sector with the record, in otadata of its size
module _ (settings : Settings) (otadata : List ℕ) (size : length otadata ≡ 8192) (placed : Placement) where
  abbrev pub left : List ℕ
  left = written_at settings Zero (Some placed) (take 4096 otadata) ++ written_at settings One (Some placed) (drop 4096 otadata)

  abbrev write : List ℕ → List ℕ
  write = overwritten settings placed.sequence

  pub left_size : length left ≡ 8192
  left_size = changed_size write (length-overwritten settings placed.sequence) placed.sector otadata size

  pub left_other : sector (other_than placed.sector) left ≡ sector (other_than placed.sector) otadata
  left_other = other_kept write (length-overwritten settings placed.sequence) placed.sector otadata size

  pub left_reads : is_sequence placed.sequence.0 ≡ true → read_sector (sector placed.sector left) ≡ Ok (new_record settings placed.sequence)
  left_reads right =
      ap read_sector (own_changed write (length-overwritten settings placed.sequence) placed.sector otadata size)
      ∙ overwritten_reads settings placed.sequence (sector placed.sector otadata) (sector_size placed.sector otadata size) right

  module _ (n : ℕ) (slot : Slot) (is : placement n slot (readings_of otadata) ≡ Some placed) where
    pub law : Placed n slot (readings_of otadata) placed
    unfolding PlacementLaw
    law = placement_law n slot (readings_of otadata) placed is

    -- the other record's sequence is lower, where it counts
    other_below : (p : Sequence) → usable_sequence (read_sector (sector (other_than placed.sector) otadata)) ≡ Some p → p.0 < placed.sequence.0
    other_below p usable =
        below_by (read_sector (sector Zero otadata)) (read_sector (sector One otadata)) placed.sequence (active_at (readings_of otadata)) refl law.smallest.above p
        (ap usable_sequence (ap (λ (k : SectorNumber). reading_at (read_sector (sector Zero otadata)) (read_sector (sector One otadata)) (other_than k)) (sym law.sector)
        ∙ reads_sector otadata (other_than placed.sector))
        ∙ usable)

    left_active : active (readings_of left) ≡ Some placed.sector
    left_active =
        is_highest placed.sequence (read_sector (sector Zero left)) (read_sector (sector One left)) placed.sector
        (ap usable_sequence (reads_sector left placed.sector ∙ left_reads law.sequence) ∙ new_usable settings placed.sequence)
        (λ p usable. other_below p (ap usable_sequence (ap read_sector (sym left_other) ∙ sym (reads_sector left (other_than placed.sector))) ∙ usable))

-- ---- set-boot

-- what is left names the slot, and its active record is not pending while rollback is on
record Pointed (g : Given) (left : List ℕ) : Type 0 where
  size : length left ≡ 8192
  sets : SetsBoot g left
  not_pending : g.settings.rollback ≡ true → sets.points.held.state ≡ Pending → ⊥

-- test 11
not_pended : (rollback : Bool) (state : State) → (rollback && (word_of state == word_of Pending)) ≡ false → rollback ≡ true → state ≡ Pending → ⊥
not_pended false state is on e = cc
not_pended true New is on e = cc
not_pended true Pending is on e = cc
not_pended true Valid is on e = cc
not_pended true Invalid is on e = cc
not_pended true Aborted is on e = cc
not_pended true Undefined is on e = cc

-- the record that names the slot already
naming_by : (n : ℕ) (slot : Slot) (o : Option (SectorNumber × Record))
    → is_some (option_and_then (λ held. if names n slot held.1 then Some held.0 else None) o) ≡ true
    → (held : SectorNumber × Record) × ((o ≡ Some held) × (names n slot held.1 ≡ true))
naming_by n slot None is = absurd cc
naming_by n slot (Some held) is = (held, (refl, by (names n slot held.1) is))
  where
    by : (b : Bool) → is_some (if b then Some held.0 else None) ≡ true → b ≡ true
    by true is = refl
    by false is = cc

module _ (g : Given) (done : Completion) (d : SetDone g done) where
  abbrev o : List ℕ
  o = g.otadata

  abbrev n : ℕ
  n = slots_of d.node

  of_boot : accepted (boot_on g o) ≡ Ok d.node
  of_boot = d.is_node

  size : length o ≡ 8192
  size = (accepted_is (boot_on g o) d.node of_boot).size

  same_settings : d.node.settings ≡ g.settings
  same_settings = (accepted_is (boot_on g o) d.node of_boot).same_settings

  slots : n ≡ slots_in g.words
  slots = slots_are g.words g.flash (length o) g.settings d.node d.is_node

  abbrev write_of : Settings → Option Placement → List ℕ
  write_of settings w = written_at settings Zero w (take 4096 o) ++ written_at settings One w (drop 4096 o)

  is_left : (w : Option Placement) → d.write ≡ w → (set_boot g).otadata ≡ write_of g.settings w
  is_left w e = d.left ∙ ap₂ write_of same_settings e

  decided : (w : Option Placement) → d.write ≡ w → new_placement n g.slot (readings_of o) ≡ Ok w
  decided w e = ap (new_placement n g.slot) (sym (same_readings o size)) ∙ d.is_write ∙ ap (λ (x : Option Placement). Ok x) e

  wrote_by : (placed : Placement) → placement n g.slot (readings_of o) ≡ Some placed → Pointed g (left g.settings o size placed)
  wrote_by placed is =
      let by_law = law g.settings o size placed n g.slot is in
      record {
        size = left_size g.settings o size placed;
        sets = record {
          at = placed.sector;
          sequence = placed.sequence;
          points = record {
            held = new_record g.settings placed.sequence;
            is_active = left_active g.settings o size placed n g.slot is;
            holds = left_reads g.settings o size placed by_law.sequence;
            of_sequence = refl;
            names = ap (λ (m : ℕ). slot_of m placed.sequence) (sym slots) ∙ by_law.smallest.names;
          };
          wrote = inr (record {
            placed = ap (λ (m : ℕ). placement m g.slot (readings_of o)) (sym slots) ∙ is;
            reads = left_reads g.settings o size placed by_law.sequence;
            other = left_other g.settings o size placed;
          });
        };
        not_pending = λ on. new_not_pending g.settings placed.sequence;
      }

  named : is_some (active_naming n g.slot (readings_of o)) ≡ true → Pointed g o
  unfolding active_naming active_pending
  named is =
      let (held, by_held) = naming_by n g.slot (active_at (readings_of o)) is in
      let is_active = of_active (read_sector (sector Zero o)) (read_sector (sector One o)) held by_held.0 in
      let passed_11 = ap (λ readings. d.node.settings.rollback && active_pending readings) (sym (same_readings o size)) ∙ d.not_pending in
      record {
        size = size;
        sets = record {
          at = held.0;
          sequence = held.1.sequence;
          points = record {
            held = held.1;
            is_active = is_active.0;
            holds = sym (reads_sector o held.0) ∙ is_active.1;
            of_sequence = refl;
            names = ap (λ (m : ℕ). slot_of m held.1.sequence) (sym slots)
                ∙ ap (λ (i : ℕ). record { 0 = i }) (eqb-true (slot_of n held.1.sequence).0 g.slot.0 by_held.1);
          };
          wrote = inl refl;
        };
        not_pending = λ on. not_pended d.node.settings.rollback held.1.state (rw by_held.0 at passed_11) (ap (λ (s : Settings). s.rollback) same_settings ∙ on);
      }

  pointed_by : (w : Option Placement) → d.write ≡ w → Pointed g (set_boot g).otadata
  unfolding new_placement
  pointed_by None e =
      subst (Pointed g) (sym (is_left None e ∙ take-append-drop 4096 o))
      (named (named_by (is_some (active_naming n g.slot (readings_of o))) (placement n g.slot (readings_of o)) (decided None e)))
  pointed_by (Some placed) e =
      subst (Pointed g) (sym (is_left (Some placed) e))
      (wrote_by placed (placed_by (is_some (active_naming n g.slot (readings_of o))) (placement n g.slot (readings_of o)) placed (decided (Some placed) e)))

  pointed : Pointed g (set_boot g).otadata
  pointed = pointed_by d.write refl

  -- the next boot
  next_boot : boot_reply (boot_on g (set_boot g).otadata)
      ≡ Ok (record { app = OtaSlot g.slot; through = Some pointed.sets.at; register = g.settings.efuse; facts = done.facts })
  next_boot =
      let p = pointed.sets.points in
      let boot = boot_on g (set_boot g).otadata in
      let lent : accepted boot ≡ Ok d.node = ap (λ (m : ℕ). node_of g.words g.flash m g.settings) (pointed.size ∙ sym size) ∙ d.is_node in
      let names : slot_of n p.held.sequence ≡ g.slot = ap₂ (λ (m : ℕ) (q : Sequence). slot_of m q) slots p.of_sequence ∙ p.names in
      starts_active boot d.node lent pointed.sets.at p.held p.is_active p.holds pointed.not_pending done.facts
      (ap (λ (s : Slot). passing d.node (OtaSlot s)) names ∙ admitted_passes d.node (OtaSlot g.slot) done.facts d.is_admitted)
      ∙ ap (λ (s : Slot). Ok (record { app = OtaSlot s; through = Some pointed.sets.at; register = g.settings.efuse; facts = done.facts })) names

pub set_boot_law : SetBootLaw
unfolding SetBootLaw
set_boot_law g done is = (pointed g done (set_done g done is)).sets

pub next_boot_law : NextBootLaw
unfolding NextBootLaw
next_boot_law g done is = let d = set_done g done is in ((pointed g done d).sets, next_boot g done d)

-- ---- the image

of_image : (g : Given) (node : Node) (facts : Facts) → accepted (boot_on g g.otadata) ≡ Ok node → admitted node (OtaSlot g.slot) ≡ Ok facts
    → OfImage (boot_on g g.otadata) (OtaSlot g.slot) facts.length facts.entry
unfolding AcceptedFits AcceptedWithin
of_image g node facts is is_admitted =
    let same = (accepted_is (boot_on g g.otadata) node is).same_settings in
    let checked = rw same at (image_admitted node (OtaSlot g.slot) facts is_admitted) in
    record {
      node = node;
      of_boot = is;
      facts = facts;
      is_accepted = checked;
      fits = accepted_fits _ g.settings.board facts checked;
      same_length = refl;
      same_entry = refl;
      within = accepted_within _ g.settings.board facts checked;
    }

pub image_law : ImageLaw
unfolding ImageLaw
image_law g = (
  λ done is. let d = set_done g done is in of_image g d.node done.facts d.is_node d.is_admitted,
  λ done is. let d = valid_done g done is in of_image g d.0 done.facts d.1.0 d.1.1,
)

-- ---- mark-invalid

found_by : (o : Option Choice) → is_none o ≡ false → (made : Choice) × (o ≡ Some made)
found_by None is = absurd cc
found_by (Some made) is = (made, refl)

-- the readings by which mark-invalid looks for a fallback are those that boot then finds
boot_finds : (settings : Settings) (first second : List ℕ) (k : SectorNumber)
    → readings (settled settings (changed_at Zero k (restated Invalid) first)) (settled settings (changed_at One k (restated Invalid) second))
    ≡ readings_without settings k (readings first second)
unfolding readings_without
boot_finds settings first second Zero =
    let marked = settled_reads settings (restated Invalid first) ∙ ap (settled_reading settings) (restated_reads Invalid first) in
    let other = settled_reads settings second in
    cc
boot_finds settings first second One =
    let other = settled_reads settings first in
    let marked = settled_reads settings (restated Invalid second) ∙ ap (settled_reading settings) (restated_reads Invalid second) in
    cc

-- boot on what mark-invalid leaves, where the record of sector k is invalid
module _ (g : Given) (node : Node) (k : SectorNumber) (is_node : node_of g.words g.flash (length g.otadata) g.settings ≡ Ok node) where
  lent_size : length g.otadata ≡ 8192
  lent_size = (accepted_is (boot_on g g.otadata) node is_node).size

  abbrev first_left : List ℕ
  first_left = changed_at Zero k (restated Invalid) (take 4096 g.otadata)

  abbrev second_left : List ℕ
  second_left = changed_at One k (restated Invalid) (drop 4096 g.otadata)

  first_left_size : length first_left ≡ 4096
  first_left_size = first_part_size (restated Invalid) (length-restated Invalid) k g.otadata lent_size

  second_left_size : length second_left ≡ 4096
  second_left_size = second_part_size (restated Invalid) (length-restated Invalid) k g.otadata lent_size

  -- it accepts the same node, and finds what the test looks at
  accepts : accepted (boot_on g (without k g.otadata)) ≡ Ok node
  accepts = ap (λ (m : ℕ). node_of g.words g.flash m g.settings) (both_sizes first_left second_left first_left_size second_left_size ∙ sym lent_size) ∙ is_node

  abbrev found : List Reading
  found = readings_without node.settings k (readings_in g.otadata)

  finds : after_marks node (without k g.otadata) ≡ found
  finds =
      ap₂ (λ (a b : List ℕ). readings (settled node.settings a) (settled node.settings b))
      (first_sector first_left second_left first_left_size second_left_size) (drop_at first_left second_left 4096 first_left_size)
      ∙ boot_finds node.settings (take 4096 g.otadata) (drop 4096 g.otadata) k

  boot_replies : boot_reply (boot_on g (without k g.otadata)) ≡ reply_by node.settings found (choice node found)
  boot_replies =
      reply_accepted (boot_on g (without k g.otadata)) node accepts
      ∙ ap (λ (rs : List Reading). reply_by node.settings rs (choice node rs)) finds

  boot_chooses : (made : Option Choice) → choice node found ≡ made → boot_reply (boot_on g (without k g.otadata)) ≡ reply_by node.settings found made
  boot_chooses made is = boot_replies ∙ ap (reply_by node.settings found) is

  -- the test
  module _ (is_tested : node_with g.words g.flash (length g.otadata) g.settings g.slot ≡ Ok node)
      (is_running : running_sector node (readings_in g.otadata) g.slot ≡ Ok k) where
    abbrev by_test : Option Choice → Result SectorNumber Refusal
    by_test made = refuse_if (is_none made) NoFallback >> Ok k

    replies : (made : Option Choice) → choice node found ≡ made → (mark_invalid g).reply ≡ invalid_reply_to (by_test made)
    unfolding mark_invalid_reply invalidation
    replies made is = rw (is_tested, is_running, is) refl

    leaves : (made : Option Choice) → choice node found ≡ made
        → (mark_invalid g).otadata ≡ invalid_left_at Zero (by_test made) (take 4096 g.otadata) ++ invalid_left_at One (by_test made) (drop 4096 g.otadata)
    unfolding mark_invalid_bytes invalidation
    leaves made is = rw (is_tested, is_running, is) refl

    keeps_last_app : (made : Option Choice) → choice node found ≡ made → KeepsLastApp g (without k g.otadata)
    keeps_last_app None is =
        record {
          exactly = (λ refused. boot_chooses None is, λ nothing. replies None is);
          outcome = inl (replies None is, leaves None is ∙ take-append-drop 4096 g.otadata);
        }
    keeps_last_app (Some made) is =
        record {
          exactly = (
            λ refused. absurd (let z = sym (replies (Some made) is) ∙ refused in cc),
            λ nothing. absurd (let z = sym (boot_chooses (Some made) is) ∙ nothing in cc),
          );
          outcome = inr (replies (Some made) is, leaves (Some made) is);
        }

pub fallback_law : FallbackLaw
unfolding FallbackLaw
fallback_law g is =
    let d = invalid_done g is in
    let rs = found g d.node d.sector d.is_node in
    let (made, is_made) = found_by (choice d.node rs) (passed (is_none (choice d.node rs)) NoFallback d.falls_back) in
    (start_of d.node.settings rs made, ap (λ (o : List ℕ). boot_reply (boot_on g o)) d.left ∙ boot_chooses g d.node d.sector d.is_node (Some made) is_made)

pub last_app_law : LastAppLaw
unfolding LastAppLaw
last_app_law g node k is_tested is_running =
    let is_node = (with_slot g.words g.flash (length g.otadata) g.settings g.slot node is_tested).is_node in
    keeps_last_app g node k is_node is_tested is_running (choice node (found g node k is_node)) refl

-- the settings that mark-invalid goes by are the node's
same_found : (g : Given) (node : Node) (k : SectorNumber) (is_node : node_of g.words g.flash (length g.otadata) g.settings ≡ Ok node)
    → readings_without g.settings k (readings_in g.otadata) ≡ found g node k is_node
same_found g node k is_node =
    ap (λ (s : Settings). readings_without s k (readings_in g.otadata)) (sym (accepted_is (boot_on g g.otadata) node is_node).same_settings)

by_choice : (settings : Settings) (rs : List Reading) (made : Option Choice) → reply_by settings rs made ≡ Err NothingBootable ↔ made ≡ None
by_choice settings rs None = (λ nothing. refl, λ none. refl)
by_choice settings rs (Some made) = (λ nothing. absurd cc, λ none. absurd cc)

pub falls_back_law : FallsBackLaw
unfolding FallsBackLaw
falls_back_law g node k is_node =
    let both = by_choice node.settings (found g node k is_node) (choice node (found g node k is_node)) in
    let same = same_found g node k is_node in (
      λ nothing. ap (choice node) same ∙ both.0 (sym (boot_replies g node k is_node) ∙ nothing),
      λ none. boot_replies g node k is_node ∙ both.1 (sym (ap (choice node) same) ∙ none),
    )
