-- Every boot, case by case: refused by one of the first three tests, or a choice on the sectors as step 1 left them.
-- Assumes nothing.
use Rattle.std.proofs.Common.{◌≡◌, ℕ, ◌≤◌, ◌==◌, Bool, true, false, not, List, ◌++◌, length, take, drop, Option, Some, Result, Ok, Err, refl, sym, ap, ◌∙◌, arith, length-append, length-drop, length-take-le}
use Rattle.std.proofs.lemmas.Bool.Decides.{nat_tests}
use Rattle.std.proofs.lemmas.List.{take_at, drop_at, take_all}
use Rattle.otadata.specs.Record.{Reading}
use Rattle.sectors.specs.declared.reading.SectorNumber.{SectorNumber}
use Rattle.sectors.specs.declared.reading.SectorNumber.TheVariants.{Zero, One}
use Rattle.sectors.specs.Sector.{read_sector, readings}
use Rattle.sectors.specs.Otadata.{readings_of}
use Rattle.partitions.specs.declared.list.BadList.{BadList as BadWords}
use Rattle.partitions.specs.PartitionList.{Partitions, list_of, has_factory}
use Rattle.node.specs.declared.Settings.{Settings}
use Rattle.node.specs.declared.Node.{Node}
use Rattle.node.specs.declared.refusal.Refusal.{Refusal}
use Rattle.node.specs.declared.refusal.Refusal.TheVariants.{BadList, WrongSize, BadSettings}
use Rattle.node.specs.Node.{list_test, otadata_size, size_test, contradicts, settings_test, node_of}
use Rattle.node.specs.Refusal.{number_of, ◌>>=◌, ◌>>◌, refuse_if}
use Rattle.boot_choice.specs.declared.Choice.{Choice}
use Rattle.boot_choice.specs.Choice.{choice}
use Rattle.boot.specs.declared.Start.{Start}
use Rattle.boot.specs.Boot.{settled, first_of, second_of, pended_by, start_of, reply_by, reply_to, first_left, second_left, reply_of, bytes_left, boot_reply, boot_bytes}
use Rattle.boot_laws.specs.Laws.{Boot, accepted, reply, left, sector, marked}
use Rattle.boot_laws.proofs.Marks.{length-marked}
use Rattle.boot_laws.proofs.Choices.{Always, Sound, choice_sound}

-- ---- the two sectors of otadata

module _ (a b : List ℕ) (size_a : length a ≡ 4096) (size_b : length b ≡ 4096) where
  pub both_sizes : length (a ++ b) ≡ 8192
  both_sizes = omega (arith, length-append a b)

  pub first_sector : sector Zero (a ++ b) ≡ a
  first_sector = take_at a b 4096 size_a

  pub second_sector : sector One (a ++ b) ≡ b
  second_sector = ap (take 4096) (drop_at a b 4096 size_a) ∙ take_all 4096 b (omega arith)

module _ (otadata : List ℕ) (size : length otadata ≡ 8192) where
  pub first_size : length (take 4096 otadata) ≡ 4096
  first_size = length-take-le 4096 otadata (omega arith)

  pub second_size : length (drop 4096 otadata) ≡ 4096
  second_size = omega (arith, length-drop 4096 otadata)

  pub second_is : sector One otadata ≡ drop 4096 otadata
  second_is = take_all 4096 (drop 4096 otadata) (omega (arith, second_size))

pub length-settled : (settings : Settings) (s : List ℕ) → length (settled settings s) ≡ length s
unfolding settled
length-settled settings s = length-marked settings _ _ s

-- the sectors as step 1 left them
module _ (settings : Settings) (otadata : List ℕ) (size : length otadata ≡ 8192) where
  pub first_of_size : length (first_of settings otadata) ≡ 4096
  first_of_size = length-settled settings (take 4096 otadata) ∙ first_size otadata size

  pub second_of_size : length (second_of settings otadata) ≡ 4096
  second_of_size = length-settled settings (drop 4096 otadata) ∙ second_size otadata size

  pub marked_sector : (k : SectorNumber) → sector k (marked settings otadata) ≡ settled settings (sector k otadata)
  marked_sector Zero = first_sector (first_of settings otadata) (second_of settings otadata) first_of_size second_of_size
  marked_sector One =
      second_sector (first_of settings otadata) (second_of settings otadata) first_of_size second_of_size
      ∙ ap (settled settings) (sym (second_is otadata size))

  pub marked_size : length (marked settings otadata) ≡ 8192
  marked_size = both_sizes (first_of settings otadata) (second_of settings otadata) first_of_size second_of_size

  -- what they read as
  pub marked_readings : readings_of (marked settings otadata) ≡ readings (first_of settings otadata) (second_of settings otadata)
  marked_readings =
      rw (
        first_sector (first_of settings otadata) (second_of settings otadata) first_of_size second_of_size,
        second_sector (first_of settings otadata) (second_of settings otadata) first_of_size second_of_size,
      ) refl

-- ---- the first three tests

-- 1, 2 or 3
abbrev pub OneToThree : Refusal → Type 0
OneToThree refusal = (1 ≤ number_of refusal) × (number_of refusal ≤ 3)

module _ (words flash : List ℕ) (size : ℕ) (settings : Settings) (P : Result Node Refusal → Type 0)
    (refused : (refusal : Refusal) → OneToThree refusal → P (Err refusal)) where
  after_test : (wrong : Bool) (refusal : Refusal) (next : Result Node Refusal) → OneToThree refusal → (wrong ≡ false → P next)
      → P (refuse_if wrong refusal >> next)
  after_test true refusal next numbered passes = refused refusal numbered
  after_test false refusal next numbered passes = passes refl

  right_size : not (size == otadata_size) ≡ false → size ≡ otadata_size
  right_size right = grind (arith, nat_tests)

  by_list : (listed : Result Partitions BadWords)
      → ((list : Partitions) → listed ≡ Ok list → size ≡ otadata_size → P (Ok (record { list = list; settings = settings })))
      → P (list_test listed
      >>= (λ list. size_test size >> (settings_test settings (has_factory list.entries) >> Ok (record { list = list; settings = settings }))))
  unfolding size_test settings_test
  by_list (Err bad) passes = refused BadList (omega arith, omega arith)
  by_list (Ok list) passes =
      after_test (not (size == otadata_size)) WrongSize
      (refuse_if (contradicts settings (has_factory list.entries)) BadSettings >> Ok (record { list = list; settings = settings }))
      (omega arith, omega arith)
      (λ right.
      after_test (contradicts settings (has_factory list.entries)) BadSettings (Ok (record { list = list; settings = settings })) (omega arith, omega arith)
      (λ agree. passes list refl (right_size right)))

  -- they refuse with 1, 2 or 3, or give the node of the list and the settings, and otadata has its size
  pub tests_decide : ((list : Partitions) → list_of words flash ≡ Ok list → size ≡ otadata_size → P (Ok (record { list = list; settings = settings })))
      → P (node_of words flash size settings)
  unfolding node_of
  tests_decide = by_list (list_of words flash)

-- what an accepted node is of
pub record IsOf (boot : Boot) (node : Node) : Type 0 where
  pub size : length boot.otadata ≡ otadata_size
  pub same_settings : node.settings ≡ boot.settings

same_ok : {x y : Node} → ◌≡◌ {A = Result Node Refusal} (Ok x) (Ok y) → x ≡ y
same_ok e = cc

pub accepted_is : (boot : Boot) (node : Node) → accepted boot ≡ Ok node → IsOf boot node
accepted_is boot node =
    tests_decide boot.words boot.flash (length boot.otadata) boot.settings (λ (r : Result Node Refusal). r ≡ Ok node → IsOf boot node)
    (λ refusal numbered is. absurd cc)
    (λ list listed size is. record { size = size; same_settings = sym (ap (λ (n : Node). n.settings) (same_ok is)) })

-- ---- every boot

module _ (node : Node) (otadata : List ℕ) where
  -- what the sectors read as after step 1, the reply to a choice by it, and the bytes that the choice leaves
  abbrev pub after_marks : List Reading
  after_marks = readings (first_of node.settings otadata) (second_of node.settings otadata)

  abbrev pub reply_with : Option Choice → Result Start Refusal
  reply_with made = reply_by node.settings after_marks made

  abbrev pub left_with : Option Choice → List ℕ
  left_with made = pended_by node.settings Zero made (first_of node.settings otadata) ++ pended_by node.settings One made (second_of node.settings otadata)

  abbrev pub SoundAfterMarks : Choice → Type 0
  SoundAfterMarks = Sound node (read_sector (first_of node.settings otadata)) (read_sector (second_of node.settings otadata))

module _ (boot : Boot) (P : Result Start Refusal → List ℕ → Type 0) where
  by_node : (r : Result Node Refusal) → accepted boot ≡ r
      → ((refusal : Refusal) → accepted boot ≡ Err refusal → P (Err refusal) boot.otadata)
      → ((node : Node) → accepted boot ≡ Ok node → (made : Option Choice) → Always made (SoundAfterMarks node boot.otadata)
      → P (reply_with node boot.otadata made) (left_with node boot.otadata made))
      → P (reply_of boot.otadata r) (bytes_left boot.otadata r)
  unfolding reply_to first_left second_left
  by_node (Err refusal) is refused chosen = refused refusal is
  by_node (Ok node) is refused chosen =
      chosen node is (choice node (after_marks node boot.otadata))
      (choice_sound node (read_sector (first_of node.settings boot.otadata)) (read_sector (second_of node.settings boot.otadata)))

  -- what holds of each refusal of the first three tests, and of each choice, holds of every boot
  pub every_boot : ((refusal : Refusal) → accepted boot ≡ Err refusal → P (Err refusal) boot.otadata)
      → ((node : Node) → accepted boot ≡ Ok node → (made : Option Choice) → Always made (SoundAfterMarks node boot.otadata)
      → P (reply_with node boot.otadata made) (left_with node boot.otadata made))
      → P (reply boot) (left boot)
  unfolding boot_reply boot_bytes
  every_boot = by_node (accepted boot) refl

-- the reply to a choice of the accepted node
pub reply_chosen : (boot : Boot) (node : Node) (made : Choice) → accepted boot ≡ Ok node → choice node (after_marks node boot.otadata) ≡ Some made
    → reply boot ≡ Ok (start_of node.settings (after_marks node boot.otadata) made)
unfolding boot_reply reply_to
reply_chosen boot node made is chosen = rw (is, chosen) refl

pub reply_accepted : (boot : Boot) (node : Node) → accepted boot ≡ Ok node
    → reply boot ≡ reply_by node.settings (after_marks node boot.otadata) (choice node (after_marks node boot.otadata))
unfolding boot_reply reply_to
reply_accepted boot node is = rw is refl
