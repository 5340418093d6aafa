-- Worked examples of the register: on the ESP32, with 32 bits, and on chip 16, with 16.
use Rattle.std.specs.Prelude.{ℕ, ◌≡◌, [], ◌∷◌, map}
use Rattle.efuse.specs.Register.{width, version, raised}

abbrev pub width_of : ℕ → ℕ
width_of chip = width (record { 0 = chip })

unfoldable pub Widths : Type 0
Widths = map width_of (0 ∷ 1 ∷ 2 ∷ 5 ∷ 16 ∷ 256 ∷ 65535 ∷ []) ≡ 32 ∷ 16 ∷ 16 ∷ 16 ∷ 16 ∷ 16 ∷ 16 ∷ []

-- register 0x0B holds version 3; raised to 3 it stays, to 4 and 5 its lowest clear bits are set
unfoldable pub Raised0x0B : Type 0
Raised0x0B = (version (width_of 0) 0x0B ≡ 3) × (map (raised (width_of 0) 0x0B) (3 ∷ 4 ∷ 5 ∷ []) ≡ 0x0B ∷ 0x0F ∷ 0x1F ∷ [])

-- a version above the width raises as the width does
unfoldable pub RaisedPastTheWidth : Type 0
RaisedPastTheWidth = map (raised (width_of 0) 0x0B) (32 ∷ 33 ∷ 0xFFFFFFFF ∷ []) ≡ 0xFFFFFFFF ∷ 0xFFFFFFFF ∷ 0xFFFFFFFF ∷ []

-- of 16 bits the upper ones are neither counted nor set
unfoldable pub Versions16 : Type 0
Versions16 = map (version (width_of 16)) (0xFFFF0000 ∷ 0xFFFF0001 ∷ 0x0001FFFF ∷ 0xFFFFFFFF ∷ []) ≡ 0 ∷ 1 ∷ 16 ∷ 16 ∷ []

unfoldable pub Raised16 : Type 0
Raised16 =
    (map (raised (width_of 16) 0xFFFF0000) (0 ∷ 1 ∷ 16 ∷ 17 ∷ 0xFFFFFFFF ∷ []) ≡ 0xFFFF0000 ∷ 0xFFFF0001 ∷ 0xFFFFFFFF ∷ 0xFFFFFFFF ∷ 0xFFFFFFFF ∷ [])
    × (map (raised (width_of 16) 0x0000FFFF) (16 ∷ 17 ∷ 32 ∷ []) ≡ 0x0000FFFF ∷ 0x0000FFFF ∷ 0x0000FFFF ∷ [])
