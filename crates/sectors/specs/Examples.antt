-- What the law of the reading speaks of does occur: a blank sector, and calls that are refused.
use Rattle.std.specs.Prelude.{ℕ, ◌<◌, ◌≡◌, List, [], length, slice_index}
use Rattle.otadata.specs.declared.TheConstants.{RECORD_SIZE}
use Rattle.sectors.specs.declared.TheConstants.{SECTOR_SIZE}
use Rattle.sectors.specs.PowerCut.{IsBlank, reads_as, store_refused, rewrite_refused, IsAllowed}

-- a sector whose record is erased is blank, and reads as none
unfoldable pub BlankLaw : Type 0
BlankLaw =
    (sector : List ℕ) → length sector ≡ SECTOR_SIZE → ((j : ℕ) → j < RECORD_SIZE → slice_index sector j ≡ 0xFF)
    → IsBlank sector × (reads_as sector ≡ [])

-- refused are a store and a rewrite that are lent a slice of fewer than 4,096 bytes, and of a whole sector store 4,128 and a rewrite with
-- a record of no bytes
pub record RefusedCalls : Type 0 where
  pub store_in_slice : (sector bytes : List ℕ) (from size m : ℕ) → size < SECTOR_SIZE → IsAllowed (store_refused from size bytes m) sector
  pub rewrite_of_slice : (sector bytes : List ℕ) (from size : ℕ) → size < SECTOR_SIZE → IsAllowed (rewrite_refused from size bytes) sector
  pub store_4128 : (sector bytes : List ℕ) → length sector ≡ SECTOR_SIZE → length bytes ≡ RECORD_SIZE → IsAllowed (store_refused 0 SECTOR_SIZE bytes 4128) sector
  pub rewrite_with_none : (sector : List ℕ) → length sector ≡ SECTOR_SIZE → IsAllowed (rewrite_refused 0 SECTOR_SIZE []) sector
