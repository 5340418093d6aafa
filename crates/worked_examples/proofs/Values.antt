-- The rows of the table that are values: each by evaluation. Those that hash an image stand apart, in Digests.
-- Assumes nothing.
use Rattle.std.proofs.Common.{◌≡◌, refl, [], ◌∷◌, ◌++◌, replicate}
use Rattle.std.specs.Int.Count.{ones_in}
use Rattle.otadata.specs.CheckWord.{step, steps, after_byte, check_word}
use Rattle.otadata.specs.Record.{is_good, fields, made}
use Rattle.efuse.specs.Register.{width, version, set_lowest, raised}
use Rattle.app_image.specs.Layout.{segment_at, segments_from, walked, checksum_place, whole_length}
use Rattle.app_image.specs.Check.{revision_fits, header_test, descriptor_test, length_test, checksum_test, version_test, digest_test, facts_of, check}
use Rattle.app_image.specs.Example.{one_segment}
use Rattle.worked_examples.specs.Digested.{flipped}
use Rattle.worked_examples.specs.Table.{first_record, layout, gives, esp32, esp32h2, on_esp32, on_esp32h2, for_h2, on301}

pub first_record_is : first_record ≡ gives (1 ∷ 0 ∷ 0 ∷ 0 ∷ replicate 24 255 ++ 0x9A ∷ 0x98 ∷ 0x43 ∷ 0x47 ∷ [])
unfolding made is_good fields check_word after_byte steps step
first_record_is = refl

pub record Registers : Type 0 where
  pub of_32 : gives (raised (width esp32) 0x0B 3 ∷ raised (width esp32) 0x0B 4 ∷ raised (width esp32) 0x0B 5 ∷ []) ≡ gives (0x0B ∷ 0x0F ∷ 0x1F ∷ [])
  pub past_16 : gives (raised (width esp32h2) 0x0000FFFF 17 ∷ []) ≡ gives (0x0000FFFF ∷ [])
  pub above_16 : gives (version (width esp32h2) 0xFFFF0000 ∷ raised (width esp32h2) 0xFFFF0000 1 ∷ []) ≡ gives (0 ∷ 0xFFFF0001 ∷ [])

pub registers : Registers
unfolding width raised set_lowest ones_in
registers = record { of_32 = refl; past_16 = refl; above_16 = refl }

pub record Layouts : Type 0 where
  pub without : layout 0 ≡ gives (0xEE ∷ 303 ∷ 0xEE ∷ 304 ∷ [])
  pub with_digest : layout 1 ≡ gives (0xEE ∷ 303 ∷ 0xEE ∷ 336 ∷ [])
  pub longer : gives (checksum_place 0x89B7C ∷ whole_length 1 0x89B7C ∷ []) ≡ gives (0x89B7F ∷ 564128 ∷ [])

pub layouts : Layouts
unfolding one_segment walked segments_from segment_at
layouts = record { without = refl; with_digest = refl; longer = refl }

pub record Checks : Type 0 where
  pub flips : on_esp32 (flipped (one_segment 0)) ≡ gives (304 ∷ 0 ∷ 1 ∷ 1 ∷ [])
  pub version_16 : on_esp32h2 (for_h2 16 0xFF) ≡ gives (304 ∷ 0 ∷ 16 ∷ 1 ∷ [])
  pub version_17 : on_esp32h2 (for_h2 17 0xFE) ≡ record { number = 29; values = 36 ∷ [] }
  pub both_301 : on301 301 301 ≡ gives (304 ∷ 0 ∷ 1 ∷ 1 ∷ [])
  pub least_302 : on301 302 0 ≡ record { number = 31; values = 15 ∷ [] }
  pub most_300 : on301 0 300 ≡ record { number = 31; values = 15 ∷ [] }
  pub most_0 : on301 0 0 ≡ gives (304 ∷ 0 ∷ 1 ∷ 1 ∷ [])
  pub most_65535 : on301 0 65535 ≡ gives (304 ∷ 0 ∷ 1 ∷ 1 ∷ [])

pub checks : Checks
unfolding one_segment walked segments_from segment_at revision_fits header_test descriptor_test length_test checksum_test version_test digest_test facts_of check width
checks =
    record { flips = refl; version_16 = refl; version_17 = refl; both_301 = refl; least_302 = refl; most_300 = refl; most_0 = refl; most_65535 = refl }
