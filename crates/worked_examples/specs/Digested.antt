-- The example's image with a digest, and an image with two flipped bits.
use Rattle.std.specs.Prelude.{ℕ, List, [], ◌∷◌, ◌++◌, take, set}
use Rattle.app_image.specs.Example.{one_segment}

-- the image of one segment with a digest flag of 1 and its digest
unfoldable pub digested : List ℕ
digested =
    take 304 (one_segment 1)
    ++ 0x0D ∷ 0xB7 ∷ 0x7E ∷ 0xFC ∷ 0x81 ∷ 0xEF ∷ 0x53 ∷ 0xDE ∷ 0xD9 ∷ 0x03 ∷ 0xB4 ∷ 0x38 ∷ 0xE7 ∷ 0x75 ∷ 0x02 ∷ 0x49 ∷
    0x77 ∷ 0xD6 ∷ 0xBE ∷ 0xCC ∷ 0xE8 ∷ 0x75 ∷ 0x24 ∷ 0xD6 ∷ 0x0A ∷ 0x70 ∷ 0x68 ∷ 0x96 ∷ 0x09 ∷ 0xBC ∷ 0x1B ∷ 0xDE ∷
    []

-- an image with two bits of its data flipped, both zero before, which cancel in the checksum
abbrev pub flipped : List ℕ → List ℕ
flipped image = set (set image 100 1) 200 1
