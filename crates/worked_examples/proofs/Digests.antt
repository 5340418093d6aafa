-- The two rows of the table that hash an image, by evaluation. They stand apart, since it takes seconds.
use Rattle.std.proofs.Common.{◌≡◌, refl, [], ◌∷◌}
use Rattle.efuse.specs.Register.{width}
use Rattle.sha256.specs.Sha256.{big_endian, padding, round_constants, word, words, scheduled, next, extended, schedule, round, rounds, sum, compressed, hashed, bytes_of, digest}
use Rattle.app_image.specs.Layout.{segment_at, segments_from, walked}
use Rattle.app_image.specs.Check.{revision_fits, header_test, descriptor_test, length_test, checksum_test, version_test, digest_compared, digest_test, facts_of, check}
use Rattle.app_image.specs.Example.{one_segment}
use Rattle.worked_examples.specs.Digested.{digested, flipped}
use Rattle.worked_examples.specs.Table.{gives, on_esp32}

pub hashed_rows : (on_esp32 digested ≡ gives (336 ∷ 0 ∷ 1 ∷ 1 ∷ []))
    × (on_esp32 (flipped digested) ≡ record { number = 30; values = 304 ∷ [] })
unfolding digested one_segment width walked segments_from segment_at revision_fits header_test descriptor_test length_test checksum_test version_test digest_compared digest_test facts_of check big_endian padding round_constants word words scheduled next extended schedule round rounds sum compressed hashed bytes_of digest
hashed_rows = (refl, refl)
