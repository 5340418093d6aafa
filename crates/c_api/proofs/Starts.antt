-- The length of an app's image as C gets it: a flash has at most 2 ^ 24 bytes, so that the length of an image in it fits into 32 bits.
use Rattle.std.proofs.Common.{◌≡◌, refl, ℕ, ◌≤◌, Bool, true, false, List, [], Option, Some, None, unwrap_or, option_map, Result, Ok, length, arith}
use Rattle.partitions.specs.declared.TheConstants.{MAX_FLASH}
use Rattle.partitions.specs.declared.entry.Entry.{Entry}
use Rattle.partitions.specs.declared.list.App.{App}
use Rattle.partitions.specs.Entry.{entry_bytes}
use Rattle.partitions.specs.PartitionList.{Partitions, subtype_of, entry_with, image_of, is_right, list_of}
use Rattle.partitions.proofs.ListRules.{part_fits}
use Rattle.node.specs.declared.Settings.{Settings}
use Rattle.node.specs.declared.Node.{Node}
use Rattle.node.specs.declared.refusal.Refusal.{Refusal}
use Rattle.node.specs.Node.{image}
use Rattle.boot.specs.declared.Start.{Start}
use Rattle.boot.specs.Boot.{boot_reply}
use Rattle.boot_laws.specs.Laws.{Boot, accepted, ImageLaw}
use Rattle.boot_laws.proofs.Boots.{tests_decide}
use Rattle.boot_laws.proofs.Laws.{image_law}

-- a list speaks of the flash that it was accepted for
same_flash : (words flash : List ℕ) (list : Partitions) → list_of words flash ≡ Ok list → list.flash ≡ flash
unfolding list_of
same_flash words flash list accepts = by (is_right words (length flash)) refl
  where
    by : (right : Bool) → is_right words (length flash) ≡ right → list.flash ≡ flash
    by true right = grind (arith, accepts, right)
    by false right = grind (arith, accepts, right)

-- the part of an app
part_of_app : (words flash : List ℕ) (list : Partitions) (found : Option Entry) → list_of words flash ≡ Ok list
    → length (unwrap_or (option_map (λ e. entry_bytes e flash) found) []) ≤ MAX_FLASH
part_of_app words flash list None accepts = omega arith
part_of_app words flash list (Some e) accepts = part_fits words flash list e accepts

image_fits : (words flash : List ℕ) (list : Partitions) (settings : Settings) (app : App) → list_of words flash ≡ Ok list
    → length (image (record { list = list; settings = settings }) app) ≤ MAX_FLASH
unfolding image_of
image_fits words flash list settings app accepts =
    rw (same_flash words flash list accepts) (part_of_app words flash list (entry_with (subtype_of app) list.entries) accepts)

same_ok : {x y : Node} → ◌≡◌ {A = Result Node Refusal} (Ok x) (Ok y) → x ≡ y
same_ok e = cc

node_fits : (boot : Boot) (node : Node) (app : App) → accepted boot ≡ Ok node → length (image node app) ≤ MAX_FLASH
node_fits boot node app =
    tests_decide boot.words boot.flash (length boot.otadata) boot.settings
    (λ (r : Result Node Refusal). r ≡ Ok node → length (image node app) ≤ MAX_FLASH)
    (λ refusal numbered is. absurd cc)
    (λ list listed size is. rw (← same_ok is) (image_fits boot.words boot.flash list boot.settings app listed))

pub length_fits : (words flash otadata : List ℕ) (settings : Settings) (start : Start)
    → boot_reply words flash otadata settings ≡ Ok start → start.facts.length ≤ MAX_FLASH
unfolding ImageLaw
length_fits words flash otadata settings start starts =
    let boot : Boot = record { words = words; flash = flash; otadata = otadata; settings = settings } in
    let of = image_law boot start starts in
    omega (arith, of.within, node_fits boot of.node start.app of.of_boot)
