-- Otadata: sector 0, then sector 1, 4,096 bytes each. A sector by its number, which may be any.
use Rattle.std.specs.Prelude.{ℕ, ◌*◌, List, Result, Ok, Err}
use Rattle.otadata.specs.declared.states.State.{State}
use Rattle.otadata.specs.Record.{Reading}
use Rattle.sectors.specs.declared.TheConstants.{SECTOR_SIZE}
use Rattle.sectors.specs.declared.rewriting.Refusal.{Refusal}
use Rattle.sectors.specs.Slice.{slice, with_slice}
use Rattle.sectors.specs.Sector.{readings}
use Rattle.sectors.specs.Rewrite.{rewrite, restated}

-- sector k; where otadata ends before it does, the shorter rest, which is no sector
abbrev pub sector_at : ℕ → List ℕ → List ℕ
sector_at k otadata = slice (k * SECTOR_SIZE) SECTOR_SIZE otadata

-- otadata with other bytes in sector k
abbrev pub with_sector : ℕ → List ℕ → List ℕ → List ℕ
with_sector k sector otadata = with_slice (k * SECTOR_SIZE) SECTOR_SIZE sector otadata

-- what both sectors read as, indexed by sector number
abbrev pub readings_of : List ℕ → List Reading
readings_of otadata = readings (sector_at 0 otadata) (sector_at 1 otadata)

-- the record of sector k in another state, by a whole rewrite of that sector
abbrev pub with_state : State → ℕ → List ℕ → List ℕ
with_state state k otadata = with_sector k (restated state (sector_at k otadata)) otadata

-- otadata, where a call on sector k leaves these bytes of the sector
abbrev pub left_at : ℕ → List ℕ → Result (List ℕ) Refusal → Result (List ℕ) Refusal
left_at k otadata (Ok left) = Ok (with_sector k left otadata)
left_at k otadata (Err refusal) = Err refusal

-- a whole rewrite of sector k, and otadata as it leaves it; where otadata has no such sector its size is wrong
abbrev pub rewrite_at : ℕ → List ℕ → List ℕ → Result (List ℕ) Refusal
rewrite_at k otadata bytes = left_at k otadata (rewrite (sector_at k otadata) bytes)
