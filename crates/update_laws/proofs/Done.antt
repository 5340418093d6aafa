-- What a call that is done went through: its tests, and what it wrote.
use Rattle.std.proofs.Common.{◌≡◌, ℕ, ◌<◌, ◌&&◌, false, not, nat_lt, List, ◌++◌, length, take, drop, Option, ok_or, Result, Ok, Err, refl, sym, ap, ◌∙◌, arith}
use Rattle.std.proofs.lemmas.Bool.Decides.{nat_tests}
use Rattle.otadata.specs.declared.records.Slot.{Slot}
use Rattle.otadata.specs.declared.states.State.TheVariants.{Invalid}
use Rattle.sectors.specs.declared.reading.SectorNumber.{SectorNumber}
use Rattle.sectors.specs.declared.reading.SectorNumber.TheVariants.{Zero, One}
use Rattle.sectors.specs.Rewrite.{restated}
use Rattle.partitions.specs.declared.list.App.TheVariants.{OtaSlot}
use Rattle.app_image.specs.declared.Facts.{Facts}
use Rattle.node.specs.declared.Settings.{Settings}
use Rattle.node.specs.declared.Node.{Node}
use Rattle.node.specs.declared.refusal.Refusal.{Refusal}
use Rattle.node.specs.declared.refusal.Refusal.TheVariants.{NotNamed, NoSuchSlot}
use Rattle.node.specs.Refusal.{◌>>=◌, ◌>>◌}
use Rattle.node.specs.Node.{node_of, admitted}
use Rattle.boot_choice.specs.Choice.{slots_of}
use Rattle.slot_records.specs.declared.Placement.{Placement}
use Rattle.slot_records.specs.Naming.{active_naming, active_pending}
use Rattle.update.specs.declared.Completion.{Completion}
use Rattle.update.specs.Tests.{slot_test, node_with, pending_test, readings_in, changed_at}
use Rattle.update.specs.SetBoot.{new_placement, decision, written_at, reply_to as set_reply_to, left_at as set_left_at, reply_in as set_reply_in, bytes_in as set_bytes_in, set_boot_reply, set_boot_bytes}
use Rattle.update.specs.Marks.{confirmation, reply_to as valid_reply_to, reply_in as valid_reply_in, mark_valid_reply}
use Rattle.update.specs.Invalid.{fallback_test, invalidation, reply_to as invalid_reply_to, left_at as invalid_left_at, reply_in as invalid_reply_in, bytes_in as invalid_bytes_in, mark_invalid_reply, mark_invalid_bytes}
use Rattle.update_laws.specs.Laws.{Given, set_boot, mark_valid, mark_invalid}
use Rattle.update_laws.proofs.Nodes.{after_ok, then_ok, passed}

-- ---- tests 1 to 4

pub record WithSlot (words flash : List ℕ) (size : ℕ) (settings : Settings) (slot : Slot) (node : Node) : Type 0 where
  pub is_node : node_of words flash size settings ≡ Ok node
  pub below : slot.0 < slots_of node

pub with_slot : (words flash : List ℕ) (size : ℕ) (settings : Settings) (slot : Slot) (node : Node) → node_with words flash size settings slot ≡ Ok node
    → WithSlot words flash size settings slot node
unfolding node_with slot_test
with_slot words flash size settings slot node is =
    let found = after_ok (node_of words flash size settings) (λ n. slot_test (slots_of n) slot >> Ok n) node is in
    let tests = then_ok (slot_test (slots_of found.0) slot) (Ok found.0) node found.1.1 in
    let same : found.0 ≡ node = cc (tests.1) in
    let below : not (nat_lt slot.0 (slots_of found.0)) ≡ false = passed (not (nat_lt slot.0 (slots_of found.0))) NoSuchSlot tests.0 in
    record {
      is_node = found.1.0 ∙ ap (λ (n : Node). Ok n) same;
      below = rw (sym same) (grind (arith, nat_tests));
    }

-- ---- set-boot

-- a set-boot that is done: its node, the tests that it passed, and what it wrote
pub record SetDone (g : Given) (done : Completion) : Type 0 where
  pub node : Node
  pub is_node : node_of g.words g.flash (length g.otadata) g.settings ≡ Ok node
  pub below : g.slot.0 < slots_of node
  pub is_admitted : admitted node (OtaSlot g.slot) ≡ Ok done.facts
  pub not_pending : (node.settings.rollback && active_pending (readings_in g.otadata)) ≡ false
  pub write : Option Placement
  pub is_write : new_placement (slots_of node) g.slot (readings_in g.otadata) ≡ Ok write
  pub register : done.register ≡ node.settings.efuse
  pub left : (set_boot g).otadata ≡ written_at node.settings Zero write (take 4096 g.otadata) ++ written_at node.settings One write (drop 4096 g.otadata)

of_reply : (settings : Settings) (decided : Result (Facts × Option Placement) Refusal) (done : Completion) → set_reply_to settings decided ≡ Ok done
    → (found : Facts × Option Placement) × ((decided ≡ Ok found) × (done.register ≡ settings.efuse) × (found.0 ≡ done.facts))
of_reply settings (Err refusal) done is = absurd cc
of_reply settings (Ok found) done is =
    let same : record { register = settings.efuse; facts = found.0 } ≡ done = cc in
    (found, (refl, sym (ap (λ (x : Completion). x.register) same), ap (λ (x : Completion). x.facts) same))

of_node : {Reply : Type 0} (r : Result Node Refusal) (reply : Result Node Refusal → Result Reply Refusal) (done : Reply)
    → ((refusal : Refusal) → reply (Err refusal) ≡ Err refusal) → reply r ≡ Ok done → (node : Node) × ((r ≡ Ok node) × (reply (Ok node) ≡ Ok done))
of_node (Ok node) reply done refuses is = (node, (refl, is))
of_node (Err refusal) reply done refuses is = absurd (let z = sym (refuses refusal) ∙ is in cc)

module _ (g : Given) where
  abbrev tested : Result Node Refusal
  tested = node_with g.words g.flash (length g.otadata) g.settings g.slot

  pub set_done : (done : Completion) → (set_boot g).reply ≡ Ok done → SetDone g done
  unfolding set_boot_reply set_boot_bytes decision pending_test
  set_done done is =
      let readings = readings_in g.otadata in
      let (node, by_node) = of_node tested (set_reply_in g.otadata g.slot) done (λ refusal. refl) is in
      let slotted = with_slot g.words g.flash (length g.otadata) g.settings g.slot node by_node.0 in
      let (found, by_reply) = of_reply node.settings (decision node readings g.slot) done by_node.1 in
      let (facts, by_facts) =
      after_ok (admitted node (OtaSlot g.slot)) (λ facts. pending_test node.settings readings >> (new_placement (slots_of node) g.slot readings >>= (λ write. Ok (facts, write)))) found by_reply.0 in
      let tests = then_ok (pending_test node.settings readings) (new_placement (slots_of node) g.slot readings >>= (λ write. Ok (facts, write))) found by_facts.1 in
      let (write, by_write) = after_ok (new_placement (slots_of node) g.slot readings) (λ write. Ok (facts, write)) found tests.1 in
      let same : (facts, write) ≡ found = cc (by_write.1) in
      record {
        node = node;
        is_node = slotted.is_node;
        below = slotted.below;
        is_admitted = by_facts.0 ∙ ap (λ (x : Facts × Option Placement). Ok x.0) same ∙ ap (λ (x : Facts). Ok x) by_reply.2;
        not_pending = passed (node.settings.rollback && active_pending readings) _ tests.0;
        write = write;
        is_write = by_write.0;
        register = by_reply.1;
        left = ap (set_bytes_in g.otadata g.slot) by_node.0
            ∙ ap (λ (d : Result (Facts × Option Placement) Refusal). set_left_at node.settings Zero d (take 4096 g.otadata) ++ set_left_at node.settings One d (drop 4096 g.otadata)) by_reply.0
            ∙ ap (λ (w : Option Placement). written_at node.settings Zero w (take 4096 g.otadata) ++ written_at node.settings One w (drop 4096 g.otadata))
            (sym (ap (λ (x : Facts × Option Placement). x.1) same));
      }

  -- the same of a set-boot whose tests pass
  pub set_passes : (node : Node) (facts : Facts) → tested ≡ Ok node → admitted node (OtaSlot g.slot) ≡ Ok facts
      → pending_test node.settings (readings_in g.otadata) ≡ Ok tt
      → (decided : Result (Option Placement) Refusal) → new_placement (slots_of node) g.slot (readings_in g.otadata) ≡ decided
      → ((set_boot g).reply ≡ set_reply_to node.settings (decided >>= (λ write. Ok (facts, write))))
      × ((set_boot g).otadata ≡ set_left_at node.settings Zero (decided >>= (λ write. Ok (facts, write))) (take 4096 g.otadata)
      ++ set_left_at node.settings One (decided >>= (λ write. Ok (facts, write))) (drop 4096 g.otadata))
  unfolding set_boot_reply set_boot_bytes decision
  set_passes node facts by_node is_admitted not_pending decided is =
      (rw (by_node, is_admitted, not_pending, is) refl, rw (by_node, is_admitted, not_pending, is) refl)

  -- ---- mark-valid

  of_valid_reply : (settings : Settings) (decided : Result (SectorNumber × Facts) Refusal) (done : Completion) → valid_reply_to settings decided ≡ Ok done
      → (found : SectorNumber × Facts) × ((decided ≡ Ok found) × (found.1 ≡ done.facts))
  of_valid_reply settings (Err refusal) done is = absurd cc
  of_valid_reply settings (Ok found) done is = (found, (refl, cc))

  pub valid_done : (done : Completion) → (mark_valid g).reply ≡ Ok done
      → (node : Node) × ((node_of g.words g.flash (length g.otadata) g.settings ≡ Ok node) × (admitted node (OtaSlot g.slot) ≡ Ok done.facts))
  unfolding mark_valid_reply confirmation
  valid_done done is =
      let readings = readings_in g.otadata in
      let (node, by_node) = of_node tested (valid_reply_in g.otadata g.slot) done (λ refusal. refl) is in
      let slotted = with_slot g.words g.flash (length g.otadata) g.settings g.slot node by_node.0 in
      let (found, by_reply) = of_valid_reply node.settings (confirmation node readings g.slot) done by_node.1 in
      let (sector, by_sector) =
      after_ok (ok_or (active_naming (slots_of node) g.slot readings) NotNamed) (λ sector. admitted node (OtaSlot g.slot) >>= (λ facts. Ok (sector, facts))) found by_reply.0 in
      let (facts, by_facts) = after_ok (admitted node (OtaSlot g.slot)) (λ facts. Ok (sector, facts)) found by_sector.1 in
      let same : facts ≡ done.facts = cc (by_facts.1, by_reply.1) in
      (node, (slotted.is_node, by_facts.0 ∙ ap (λ (x : Facts). Ok x) same))

  -- ---- mark-invalid

  of_invalid_reply : (decided : Result SectorNumber Refusal) → invalid_reply_to decided ≡ Ok tt → (sector : SectorNumber) × (decided ≡ Ok sector)
  of_invalid_reply (Err refusal) is = absurd cc
  of_invalid_reply (Ok sector) is = (sector, refl)

-- a mark-invalid that is done: its node, the sector, and that boot would choose an app
pub record InvalidDone (g : Given) : Type 0 where
  pub node : Node
  pub is_node : node_of g.words g.flash (length g.otadata) g.settings ≡ Ok node
  pub sector : SectorNumber
  pub falls_back : fallback_test node (readings_in g.otadata) sector ≡ Ok tt
  pub left : (mark_invalid g).otadata ≡ changed_at Zero sector (restated Invalid) (take 4096 g.otadata) ++ changed_at One sector (restated Invalid) (drop 4096 g.otadata)

pub invalid_done : (g : Given) → (mark_invalid g).reply ≡ Ok tt → InvalidDone g
unfolding mark_invalid_reply mark_invalid_bytes invalidation
invalid_done g is =
    let readings = readings_in g.otadata in
    let (node, by_node) = of_node (tested g) (invalid_reply_in g.otadata g.slot) tt (λ refusal. refl) is in
    let slotted = with_slot g.words g.flash (length g.otadata) g.settings g.slot node by_node.0 in
    let (found, by_reply) = of_invalid_reply g (invalidation node readings g.slot) by_node.1 in
    let (sector, by_sector) =
    after_ok (ok_or (active_naming (slots_of node) g.slot readings) NotNamed) (λ sector. fallback_test node readings sector >> Ok sector) found by_reply in
    let tests = then_ok (fallback_test node readings sector) (Ok sector) found by_sector.1 in
    let same : sector ≡ found = cc (tests.1) in
    record {
      node = node;
      is_node = slotted.is_node;
      sector = sector;
      falls_back = tests.0;
      left = ap (invalid_bytes_in g.otadata g.slot) by_node.0
          ∙ ap (λ (d : Result SectorNumber Refusal). invalid_left_at Zero d (take 4096 g.otadata) ++ invalid_left_at One d (drop 4096 g.otadata)) by_reply
          ∙ ap (λ (k : SectorNumber). changed_at Zero k (restated Invalid) (take 4096 g.otadata) ++ changed_at One k (restated Invalid) (drop 4096 g.otadata)) (sym same);
    }
