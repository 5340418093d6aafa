-- What the parts answer, of any words, flash and settings.
use Rattle.std.specs.Prelude.{ℕ, ◌≡◌, List, length, Option, option_map, option_and_then, Result, Ok, Err}
use Rattle.std.specs.Result.{result_ok}
use Rattle.otadata.specs.Record.{Reading}
use Rattle.app_image.specs.declared.Facts.{Facts}
use Rattle.partitions.specs.declared.list.App.{App}
use Rattle.partitions.specs.declared.parts.Listing.{Listing}
use Rattle.partitions.specs.PartitionList.{list_of, has_factory, slot_count, check}
use Rattle.node.specs.declared.Node.{Node}
use Rattle.node.specs.declared.Settings.{Settings}
use Rattle.node.specs.declared.refusal.Refusal.{Refusal}
use Rattle.node.specs.Refusal.{◌>>=◌, ◌>>◌}
use Rattle.node.specs.Node.{list_test, size_test, settings_test, node_of, passing}
use Rattle.boot_choice.specs.declared.Choice.{Choice}
use Rattle.boot_choice.specs.Choice.{choice}

-- ---- the first tests

-- of a flash of that length and otadata of that size
unfoldable pub accepted_node : List ℕ → ℕ → ℕ → Result Listing Refusal
accepted_node words capacity size = do
  listing ← list_test (check words capacity)
  size_test size
  Ok listing

unfoldable pub accepted : List ℕ → ℕ → ℕ → Settings → Result Listing Refusal
accepted words capacity size settings = do
  listing ← accepted_node words capacity size
  settings_test settings listing.factory
  Ok listing

-- what the list of an accepted node has
abbrev pub listed : Result Node Refusal → Result Listing Refusal
listed (Ok node) = Ok (record { slots = slot_count node.list.entries; factory = has_factory node.list.entries })
listed (Err refusal) = Err refusal

-- they are the tests that a node passes
unfoldable pub SameTests : Type 0
SameTests =
    (words flash : List ℕ) (size : ℕ) (settings : Settings)
    → accepted words (length flash) size settings ≡ listed (node_of words flash size settings)

-- ---- passing and choosing

-- the node of a list with such settings, which are not tested
abbrev pub untested : List ℕ → List ℕ → Settings → Option Node
untested words flash settings = option_map (λ list. record { list = list; settings = settings }) (result_ok (list_of words flash))

unfoldable pub passes : List ℕ → List ℕ → Settings → App → Option Facts
passes words flash settings app = option_and_then (λ node. passing node app) (untested words flash settings)

unfoldable pub choose : List ℕ → List ℕ → Settings → List Reading → Option Choice
choose words flash settings readings = option_and_then (λ node. choice node readings) (untested words flash settings)
