-- A refusal changes no byte, and leaves the register as it was given.
use Rattle.std.proofs.Common.{◌≡◌, ℕ, List, ◌++◌, length, take, drop, take-append-drop, Option, Result, Ok, Err, refl, ap}
use Rattle.otadata.specs.declared.records.Slot.{Slot}
use Rattle.sectors.specs.declared.reading.SectorNumber.{SectorNumber}
use Rattle.sectors.specs.declared.reading.SectorNumber.TheVariants.{Zero, One}
use Rattle.app_image.specs.declared.Facts.{Facts}
use Rattle.node.specs.declared.Settings.{Settings}
use Rattle.node.specs.declared.Node.{Node}
use Rattle.node.specs.declared.refusal.Refusal.{Refusal}
use Rattle.slot_records.specs.declared.Placement.{Placement}
use Rattle.update.specs.declared.Completion.{Completion}
use Rattle.update.specs.Answer.{register_of, register_given}
use Rattle.update.specs.Tests.{node_with}
use Rattle.update.specs.SetBoot.{decision, reply_to as set_reply_to, left_at as set_left_at, reply_in as set_reply_in, bytes_in as set_bytes_in, set_boot_reply, set_boot_bytes}
use Rattle.update.specs.Marks.{confirmation, reply_to as valid_reply_to, left_at as valid_left_at, reply_in as valid_reply_in, bytes_in as valid_bytes_in, mark_valid_reply, mark_valid_bytes}
use Rattle.update.specs.Invalid.{invalidation, reply_to as invalid_reply_to, left_at as invalid_left_at, reply_in as invalid_reply_in, bytes_in as invalid_bytes_in, mark_invalid_reply, mark_invalid_bytes, giving_register}
use Rattle.boot_laws.proofs.Boots.{accepted_is}
use Rattle.update_laws.specs.Laws.{Given, set_boot, mark_valid, mark_invalid, boot_on, RefusalLaw, RegisterLaw}
use Rattle.update_laws.proofs.Done.{with_slot}

refused_register : (settings : Settings) (reply : Result Completion Refusal) (refusal : Refusal) → reply ≡ Err refusal → register_of settings reply ≡ settings.efuse
refused_register settings (Ok done) refusal is = absurd cc
refused_register settings (Err e) refusal is = refl

-- a mark-invalid gives the register as it was given
given_register : (settings : Settings) (reply : Result (Unit {0}) Refusal) → register_given (giving_register settings reply) ≡ settings.efuse
given_register settings (Ok done) = refl
given_register settings (Err refusal) = refl

halves : (otadata : List ℕ) → take 4096 otadata ++ drop 4096 otadata ≡ otadata
halves otadata = take-append-drop 4096 otadata

-- ---- set-boot

set_left : (settings : Settings) (otadata : List ℕ) (decided : Result (Facts × Option Placement) Refusal) (refusal : Refusal) → set_reply_to settings decided ≡ Err refusal
    → set_left_at settings Zero decided (take 4096 otadata) ++ set_left_at settings One decided (drop 4096 otadata) ≡ otadata
set_left settings otadata (Err e) refusal is = halves otadata
set_left settings otadata (Ok found) refusal is = absurd cc

set_keeps : (otadata : List ℕ) (slot : Slot) (r : Result Node Refusal) (refusal : Refusal) → set_reply_in otadata slot r ≡ Err refusal → set_bytes_in otadata slot r ≡ otadata
set_keeps otadata slot (Err e) refusal is = refl
set_keeps otadata slot (Ok node) refusal is = set_left node.settings otadata (decision node _ slot) refusal is

-- done or refused, the register is as it was given
set_register : (settings given : Settings) (decided : Result (Facts × Option Placement) Refusal) → settings ≡ given → register_of given (set_reply_to settings decided) ≡ given.efuse
set_register settings given (Err e) same = refl
set_register settings given (Ok found) same = ap (λ (s : Settings). s.efuse) same

register_by : (otadata : List ℕ) (slot : Slot) (given : Settings) (r : Result Node Refusal) → ((node : Node) → r ≡ Ok node → node.settings ≡ given)
    → register_of given (set_reply_in otadata slot r) ≡ given.efuse
register_by otadata slot given (Err e) of_node = refl
register_by otadata slot given (Ok node) of_node = set_register node.settings given (decision node _ slot) (of_node node refl)

-- ---- the marks

valid_left : (settings : Settings) (otadata : List ℕ) (decided : Result (SectorNumber × Facts) Refusal) (refusal : Refusal) → valid_reply_to settings decided ≡ Err refusal
    → valid_left_at Zero decided (take 4096 otadata) ++ valid_left_at One decided (drop 4096 otadata) ≡ otadata
valid_left settings otadata (Err e) refusal is = halves otadata
valid_left settings otadata (Ok found) refusal is = absurd cc

valid_keeps : (otadata : List ℕ) (slot : Slot) (r : Result Node Refusal) (refusal : Refusal) → valid_reply_in otadata slot r ≡ Err refusal → valid_bytes_in otadata slot r ≡ otadata
valid_keeps otadata slot (Err e) refusal is = refl
valid_keeps otadata slot (Ok node) refusal is = valid_left node.settings otadata (confirmation node _ slot) refusal is

invalid_left : (otadata : List ℕ) (decided : Result SectorNumber Refusal) (refusal : Refusal) → invalid_reply_to decided ≡ Err refusal
    → invalid_left_at Zero decided (take 4096 otadata) ++ invalid_left_at One decided (drop 4096 otadata) ≡ otadata
invalid_left otadata (Err e) refusal is = halves otadata
invalid_left otadata (Ok found) refusal is = absurd cc

invalid_keeps : (otadata : List ℕ) (slot : Slot) (r : Result Node Refusal) (refusal : Refusal) → invalid_reply_in otadata slot r ≡ Err refusal → invalid_bytes_in otadata slot r ≡ otadata
invalid_keeps otadata slot (Err e) refusal is = refl
invalid_keeps otadata slot (Ok node) refusal is = invalid_left otadata (invalidation node _ slot) refusal is

module _ (g : Given) where
  abbrev tested : Result Node Refusal
  tested = node_with g.words g.flash (length g.otadata) g.settings g.slot

pub refusal_law : RefusalLaw
unfolding RefusalLaw set_boot_reply set_boot_bytes mark_valid_reply mark_valid_bytes mark_invalid_reply mark_invalid_bytes
refusal_law g =
    record {
      at_set_boot = λ refusal is. (set_keeps g.otadata g.slot (tested g) refusal is, refused_register g.settings (set_boot g).reply refusal is);
      at_mark_valid = λ refusal is. (valid_keeps g.otadata g.slot (tested g) refusal is, refused_register g.settings (mark_valid g).reply refusal is);
      at_mark_invalid = λ refusal is. (invalid_keeps g.otadata g.slot (tested g) refusal is, given_register g.settings (mark_invalid g).reply);
    }

pub register_law : RegisterLaw
unfolding RegisterLaw set_boot_reply
register_law g =
    record {
      at_set_boot = register_by g.otadata g.slot g.settings (tested g)
          (λ node is. (accepted_is (boot_on g g.otadata) node (with_slot g.words g.flash (length g.otadata) g.settings g.slot node is).is_node).same_settings);
      at_mark_invalid = given_register g.settings (mark_invalid g).reply;
    }
