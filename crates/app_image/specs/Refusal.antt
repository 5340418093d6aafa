-- A refused image and an accepted one in numbers.
use Rattle.std.specs.Prelude.{ℕ, codes, List, [], ◌∷◌, ◌++◌, Result, Ok, Err}
use Rattle.std.specs.Fmt.{decimal}
use Rattle.otadata.specs.Answer.{Answer}
use Rattle.app_image.specs.declared.Facts.{Facts}
use Rattle.app_image.specs.declared.refusal.ImageRefusal.{ImageRefusal}
use Rattle.app_image.specs.declared.refusal.ImageRefusal.TheVariants.{TooShort, BadMagic, BadSegmentCount, WrongChip, WrongRevision, BadDigestFlag, BadSegment, NoDescriptor, CutShort, WrongChecksum, VersionTooHigh, WrongDigest}

abbrev pub number_of : ImageRefusal → ℕ
number_of TooShort = 20
number_of BadMagic = 21
number_of BadSegmentCount = 22
number_of WrongChip = 23
number_of WrongRevision = 31
number_of BadDigestFlag = 24
number_of (BadSegment header) = 25
number_of NoDescriptor = 26
number_of (CutShort end) = 27
number_of (WrongChecksum place) = 28
number_of VersionTooHigh = 29
number_of (WrongDigest place) = 30

-- where in the image the fault is; of bytes past the end, where the segments end
abbrev pub place_of : ImageRefusal → ℕ
place_of TooShort = 0
place_of BadMagic = 0
place_of BadSegmentCount = 1
place_of WrongChip = 12
place_of WrongRevision = 15
place_of BadDigestFlag = 23
place_of (BadSegment header) = header
place_of NoDescriptor = 32
place_of (CutShort end) = end
place_of (WrongChecksum place) = place
place_of VersionTooHigh = 36
place_of (WrongDigest place) = place

-- of an accepted image 0 with whole length, entry address, secure version and number of segments; of a refused one number and place
abbrev pub answer_of : Result Facts ImageRefusal → Answer
answer_of (Ok facts) = record { number = 0; values = facts.length ∷ facts.entry ∷ facts.version.0 ∷ facts.segments ∷ [] }
answer_of (Err refusal) = record { number = number_of refusal; values = place_of refusal ∷ [] }

-- the text that is printed
abbrev pub text_of : ImageRefusal → List ℕ
text_of refusal = codes "image refused with " ++ decimal (number_of refusal) ++ codes " at " ++ decimal (place_of refusal)
