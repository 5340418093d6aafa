-- What an accepted node is, and the image of an app that is admitted.
use Rattle.std.proofs.Common.{◌≡◌, ℕ, Bool, true, false, if◌then◌else◌, List, length, Some, Result, Ok, Err, refl, sym, ap, ◌∙◌}
use Rattle.std.specs.Result.{result_ok}
use Rattle.app_image.specs.declared.Facts.{Facts}
use Rattle.app_image.specs.declared.ImageRefusal.{ImageRefusal}
use Rattle.app_image.specs.Check.{check}
use Rattle.partitions.specs.declared.list.App.{App}
use Rattle.partitions.specs.declared.list.BadList.{BadList as BadWords}
use Rattle.partitions.specs.PartitionList.{Partitions, entries_of, is_right, list_of, slot_count, has_factory}
use Rattle.node.specs.declared.Settings.{Settings}
use Rattle.node.specs.declared.Node.{Node}
use Rattle.node.specs.declared.refusal.Refusal.{Refusal}
use Rattle.node.specs.declared.refusal.Refusal.TheVariants.{BelowEfuse}
use Rattle.node.specs.Refusal.{◌>>=◌, ◌>>◌, refuse_if}
use Rattle.node.specs.Settings.{is_below_efuse}
use Rattle.node.specs.Node.{list_test, size_test, settings_test, node_of, image, image_test, admitted, passing}
use Rattle.boot_choice.specs.Choice.{slots_of}
use Rattle.update_laws.specs.Laws.{slots_in}

-- ---- one test after another

pub after_ok : {A B : Type 0} (x : Result A Refusal) (f : A → Result B Refusal) (y : B) → x >>= f ≡ Ok y → (a : A) × ((x ≡ Ok a) × (f a ≡ Ok y))
after_ok (Ok a) f y is = (a, (refl, is))
after_ok (Err e) f y is = absurd cc

pub then_ok : {B : Type 0} (x : Result (Unit {0}) Refusal) (next : Result B Refusal) (y : B) → x >> next ≡ Ok y → (x ≡ Ok tt) × (next ≡ Ok y)
then_ok (Ok tt) next y is = (refl, is)
then_ok (Err e) next y is = absurd cc

pub passed : (wrong : Bool) (refusal : Refusal) → refuse_if wrong refusal ≡ Ok tt → wrong ≡ false
passed true refusal is = cc
passed false refusal is = refl

-- ---- the slots of an accepted node are those of the list's words

listed : (r : Result Partitions BadWords) (list : Partitions) → list_test r ≡ Ok list → r ≡ Ok list
listed (Ok accepted) list is = cc
listed (Err bad) list is = cc

of_words : (b : Bool) (made list : Partitions) (bad : BadWords) → (if b then Ok made else Err bad) ≡ Ok list → made ≡ list
of_words true made list bad is = cc
of_words false made list bad is = cc

pub slots_are : (words flash : List ℕ) (size : ℕ) (settings : Settings) (node : Node) → node_of words flash size settings ≡ Ok node → slots_of node ≡ slots_in words
unfolding node_of list_of
slots_are words flash size settings node is =
    let rest : Partitions → Result Node Refusal =
    λ list. size_test size >> (settings_test settings (has_factory list.entries) >> Ok (record { list = list; settings = settings })) in
    let (list, by_list) = after_ok (list_test (list_of words flash)) rest node is in
    let sized = then_ok (size_test size) (settings_test settings (has_factory list.entries) >> Ok (record { list = list; settings = settings })) node by_list.1 in
    let tested = then_ok (settings_test settings (has_factory list.entries)) (Ok (record { list = list; settings = settings })) node sized.1 in
    let same : record { list = list; settings = settings } ≡ node = cc (tested.1) in
    let made : record { entries = entries_of words; flash = flash } ≡ list =
    of_words (is_right words (length flash)) (record { entries = entries_of words; flash = flash }) list (record {}) (listed (list_of words flash) list by_list.0) in
    sym (ap (λ (x : Partitions). slot_count x.entries) made ∙ ap (λ (x : Node). slots_of x) same)

-- ---- an app that is admitted

checked : (r : Result Facts ImageRefusal) (facts : Facts) → image_test r ≡ Ok facts → r ≡ Ok facts
checked (Ok found) facts is = cc
checked (Err e) facts is = cc

pub image_admitted : (node : Node) (app : App) (facts : Facts) → admitted node app ≡ Ok facts → check (image node app) node.settings.board ≡ Ok facts
unfolding admitted
image_admitted node app facts is =
    let rest : Facts → Result Facts Refusal = λ facts. refuse_if (is_below_efuse node.settings facts.version) BelowEfuse >> Ok facts in
    let (found, by_image) = after_ok (image_test (check (image node app) node.settings.board)) rest facts is in
    let tested = then_ok (refuse_if (is_below_efuse node.settings found.version) BelowEfuse) (Ok found) facts by_image.1 in
    let same : found ≡ facts = cc (tested.1) in
    checked (check (image node app) node.settings.board) facts (by_image.0 ∙ ap (λ (x : Facts). Ok x) same)

pub admitted_passes : (node : Node) (app : App) (facts : Facts) → admitted node app ≡ Ok facts → passing node app ≡ Some facts
unfolding passing
admitted_passes node app facts is = rw is refl

passes_by : (r : Result Facts Refusal) (facts : Facts) → result_ok r ≡ Some facts → r ≡ Ok facts
passes_by (Ok found) facts is = cc
passes_by (Err refusal) facts is = cc

pub passes_admitted : (node : Node) (app : App) (facts : Facts) → passing node app ≡ Some facts → admitted node app ≡ Ok facts
unfolding passing
passes_admitted node app facts is = passes_by (admitted node app) facts is
