-- What a power cut can leave of a sector, and the law of its reading.
use Rattle.std.specs.Prelude.{ℕ, ◌+◌, ◌<◌, ◌≤◌, ◌≡◌, IsTrue, Ok, IsErr, List, [], ◌∷◌, ◌⊎◌, All, length, replicate, if◌then◌else◌}
use Rattle.std.specs.Result.{result_unwrap_or}
use Rattle.otadata.specs.declared.TheConstants.{RECORD_SIZE}
use Rattle.otadata.specs.Record.{is_good}
use Rattle.sectors.specs.declared.TheConstants.{SECTOR_SIZE, STORES}
use Rattle.sectors.specs.Slice.{slice, with_slice}
use Rattle.sectors.specs.Sector.{record_in}
use Rattle.sectors.specs.Rewrite.{cut, single_store, rewrite}

-- a sector is blank if its record is 32 bytes 0xFF
abbrev pub IsBlank : List ℕ → Type 0
IsBlank sector = record_in sector ≡ replicate RECORD_SIZE 0xFF

-- a sector reads as the bytes of its record where that is good, else as none, which is the empty list
unfoldable pub reads_as : List ℕ → List ℕ
reads_as sector = if is_good (record_in sector) then record_in sector else []

-- a cut is what single stores leave: store k, called on a sector cut at k, is done and leaves it cut at k + 1
unfoldable pub StoreByStore : Type 0
StoreByStore =
    (sector bytes : List ℕ) (k : ℕ) → length sector ≡ SECTOR_SIZE → length bytes ≡ RECORD_SIZE → k < STORES
    → single_store (cut bytes k sector) bytes k ≡ Ok (cut bytes (k + 1) sector)

-- once its rewrite is finished, a sector reads as the new record, whatever it held before
unfoldable pub FinishedLaw : Type 0
FinishedLaw =
    (sector bytes : List ℕ) → length sector ≡ SECTOR_SIZE → IsTrue (is_good bytes) → reads_as (cut bytes STORES sector) ≡ bytes

-- ---- the calls on one sector

-- a rewrite with a record, cut at k (finished where k is 4,128); or a single store or a whole rewrite that the library refuses, lent any
-- slice of the sector
pub data Call : Type 0 where
  rewrite_cut : (bytes : List ℕ) (k : ℕ) → Call
  store_refused : (from size : ℕ) (bytes : List ℕ) (m : ℕ) → Call
  rewrite_refused : (from size : ℕ) (bytes : List ℕ) → Call

-- what may be called on a sector: a rewrite with a good record, cut at 0 to 4,128, or a call that is indeed refused
abbrev pub IsAllowed : Call → List ℕ → Type 0
IsAllowed (rewrite_cut bytes k) sector = All (λ byte. byte < 256) bytes × IsTrue (is_good bytes) × (k ≤ STORES)
IsAllowed (store_refused from size bytes m) sector = IsErr (single_store (slice from size sector) bytes m)
IsAllowed (rewrite_refused from size bytes) sector = IsErr (rewrite (slice from size sector) bytes)

-- the bytes that a call leaves
abbrev pub leaves : Call → List ℕ → List ℕ
leaves (rewrite_cut bytes k) sector = cut bytes k sector
leaves (store_refused from size bytes m) sector =
    let lent = slice from size sector in with_slice from size (result_unwrap_or (single_store lent bytes m) lent) sector
leaves (rewrite_refused from size bytes) sector =
    let lent = slice from size sector in with_slice from size (result_unwrap_or (rewrite lent bytes) lent) sector

-- the bytes that a list of calls leaves, each on the bytes that the one before left
abbrev pub after : List Call → List ℕ → List ℕ
after [] sector = sector
after (call ∷ calls) sector = after calls (leaves call sector)

abbrev pub AllAllowed : List Call → List ℕ → Type 0
AllAllowed [] sector = Unit
AllAllowed (call ∷ calls) sector = IsAllowed call sector × AllAllowed calls (leaves call sector)

-- ---- the last rewrite of the list

-- no rewrite so far; or the last one: the bytes on which it began, its record and its cut
pub data Last : Type 0 where
  none : Last
  last : (before bytes : List ℕ) (k : ℕ) → Last

abbrev pub noted : Call → List ℕ → Last → Last
noted (rewrite_cut bytes k) sector so_far = last sector bytes k
noted (store_refused from size bytes m) sector so_far = so_far
noted (rewrite_refused from size bytes) sector so_far = so_far

-- the last rewrite of the calls, where `so_far` was the last before them
abbrev pub last_of : List Call → List ℕ → Last → Last
last_of [] sector so_far = so_far
last_of (call ∷ calls) sector so_far = last_of calls (leaves call sector) (noted call sector so_far)

-- ---- the law

-- a sector that starts blank or with a good record, and a list of allowed calls on it,
-- the last rewrite of which began on the bytes `before`, with the record `bytes`, and was cut at k
pub record History (start : List ℕ) (calls : List Call) (before bytes : List ℕ) (k : ℕ) : Type 0 where
  pub size : length start ≡ SECTOR_SIZE
  pub are_bytes : All (λ byte. byte < 256) start
  pub begins : IsBlank start ⊎ IsTrue (is_good (record_in start))
  pub each : AllAllowed calls start
  pub ends : last_of calls start none ≡ last before bytes k

-- what is left reads exactly as it did before the last rewrite, exactly as that rewrite's record, or as none;
-- where that rewrite is finished, as its record
pub record Reads (before bytes : List ℕ) (k : ℕ) (left : List ℕ) : Type 0 where
  pub one_of : (reads_as left ≡ reads_as before) ⊎ ((reads_as left ≡ bytes) ⊎ (reads_as left ≡ []))
  pub finished : k ≡ STORES → reads_as left ≡ bytes

-- for every such history
unfoldable pub ReadingLaw : Type 0
ReadingLaw = (start : List ℕ) (calls : List Call) (before bytes : List ℕ) (k : ℕ) → History start calls before bytes k → Reads before bytes k (after calls start)
