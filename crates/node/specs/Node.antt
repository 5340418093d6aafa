-- A node: the tests that come first in every call, and when an app passes.
use Rattle.std.specs.Prelude.{ℕ, Bool, not, ◌&&◌, ◌||◌, ◌==◌, List, [], Option, unwrap_or, Result, Ok, Err}
use Rattle.std.specs.Result.{result_ok}
use Rattle.app_image.specs.declared.Facts.{Facts}
use Rattle.app_image.specs.declared.ImageRefusal.{ImageRefusal}
use Rattle.app_image.specs.Check.{check}
use Rattle.partitions.specs.declared.list.App.{App}
use Rattle.partitions.specs.declared.list.BadList.{BadList as BadWords}
use Rattle.partitions.specs.PartitionList.{list_of, has_factory, image_of}
use Rattle.node.specs.declared.Node.{Node}
use Rattle.node.specs.declared.Settings.{Settings}
use Rattle.node.specs.declared.refusal.Refusal.{Refusal}
use Rattle.node.specs.declared.refusal.Refusal.TheVariants.{BadList, WrongSize, BadSettings, BadImage, BelowEfuse}
use Rattle.node.specs.Settings.{is_below_efuse}
use Rattle.node.specs.Refusal.{◌>>=◌, ◌>>◌, refuse_if}

-- ---- the first three tests

-- 1: a list that breaks its rules
abbrev pub list_test : {T : Type 0} → Result T BadWords → Result T Refusal
list_test (Ok accepted) = Ok accepted
list_test (Err e) = Err BadList

-- otadata is exactly 8,192 bytes
abbrev pub otadata_size : ℕ
otadata_size = 8192

-- 2: otadata of another size
unfoldable pub size_test : ℕ → Result (Unit {0}) Refusal
size_test size = refuse_if (not (size == otadata_size)) WrongSize

-- anti-rollback without rollback, or with a factory entry
abbrev pub contradicts : Settings → Bool → Bool
contradicts settings has_factory = settings.anti_rollback && (not settings.rollback || has_factory)

-- 3: settings that contradict each other
unfoldable pub settings_test : Settings → Bool → Result (Unit {0}) Refusal
settings_test settings has_factory = refuse_if (contradicts settings has_factory) BadSettings

-- the node of a list, a flash, otadata of that size and settings that pass the three tests
unfoldable pub node_of : List ℕ → List ℕ → ℕ → Settings → Result Node Refusal
node_of words flash size settings = do
  list ← list_test (list_of words flash)
  size_test size
  settings_test settings (has_factory list.entries)
  Ok (record { list = list; settings = settings })

-- ---- passing

-- the image of an app: exactly its entry's part of the flash, and no bytes where the app is not listed
abbrev pub image : Node → App → List ℕ
image node app = unwrap_or (image_of node.list app) []

-- 5: an image that is refused
abbrev pub image_test : Result Facts ImageRefusal → Result Facts Refusal
image_test (Ok facts) = Ok facts
image_test (Err e) = Err (BadImage e)

-- 6: with anti-rollback on, a version below that of the register
unfoldable pub admitted : Node → App → Result Facts Refusal
admitted node app = do
  facts ← image_test (check (image node app) node.settings.board)
  refuse_if (is_below_efuse node.settings facts.version) BelowEfuse
  Ok facts

-- an app passes if its image is accepted and, with anti-rollback on, its version is at least that of the register
unfoldable pub passing : Node → App → Option Facts
passing node app = result_ok (admitted node app)
