-- How a sector is rewritten.
use Rattle.std.specs.Prelude.{ℕ, zero, suc, ◌-◌, Bool, List, length, slice_index, slice_set, Result, Ok, Err, ◌&&◌, ◌==◌, nat_lt, if◌then◌else◌}
use Rattle.std.specs.Result.{result_unwrap_or}
use Rattle.otadata.specs.declared.TheConstants.{RECORD_SIZE}
use Rattle.otadata.specs.declared.states.State.{State}
use Rattle.otadata.specs.Record.{Reading, bytes_of}
use Rattle.sectors.specs.declared.TheConstants.{SECTOR_SIZE, STORES}
use Rattle.sectors.specs.declared.rewriting.Refusal.{Refusal}
use Rattle.sectors.specs.declared.rewriting.Refusal.TheVariants.{WrongSize, NoSuchStore}
use Rattle.sectors.specs.Sector.{read_sector}

-- the record byte that store m sets, from 4,096 on
abbrev pub record_byte : ℕ → ℕ
record_byte m = 31 - (m - 4096)

-- store m: below 4,096 it sets byte m to 0xFF, from 4,096 on the record byte of m
unfoldable pub stored : List ℕ → ℕ → List ℕ → List ℕ
stored bytes m sector =
    if nat_lt m SECTOR_SIZE then slice_set sector m 0xFF
    else slice_set sector (record_byte m) (slice_index bytes (record_byte m))

-- a rewrite cut at k has stores 0 to k - 1 done in order
unfoldable pub cut : List ℕ → ℕ → List ℕ → List ℕ
cut bytes zero sector = sector
cut bytes (suc k) sector = stored bytes k (cut bytes k sector)

-- the sector has 4,096 bytes, and the record 32
abbrev pub are_sized : List ℕ → List ℕ → Bool
are_sized sector bytes = (length sector == SECTOR_SIZE) && (length bytes == RECORD_SIZE)

-- one store of a rewrite, and the bytes that it leaves: a wrong size is refused, then a store number from 4,128
abbrev pub single_store : List ℕ → List ℕ → ℕ → Result (List ℕ) Refusal
single_store sector bytes m =
    if are_sized sector bytes then (if nat_lt m STORES then Ok (stored bytes m sector) else Err NoSuchStore)
    else Err WrongSize

-- a rewrite, and the bytes that it leaves: all 4,128 stores; a wrong size is refused
abbrev pub rewrite : List ℕ → List ℕ → Result (List ℕ) Refusal
rewrite sector bytes = if are_sized sector bytes then Ok (cut bytes STORES sector) else Err WrongSize

-- the reply of a call that leaves such bytes
abbrev pub done : Result (List ℕ) Refusal → Result (Unit {0}) Refusal
done (Ok left) = Ok tt
done (Err refusal) = Err refusal

-- ---- changing a state

-- the record, if there is one, in another state; sequence and label stay
abbrev pub in_other_state : State → Reading → Reading
in_other_state state (Ok r) = Ok (record r { state = state })
in_other_state state (Err fault) = Err fault

-- the sector rewritten whole with a record; without one it stays as it is
abbrev pub rewritten_with : Reading → List ℕ → List ℕ
rewritten_with (Ok r) sector = result_unwrap_or (rewrite sector (bytes_of r)) sector
rewritten_with (Err fault) sector = sector

-- the sector rewritten whole with its record in another state
unfoldable pub restated : State → List ℕ → List ℕ
restated state sector = rewritten_with (in_other_state state (read_sector sector)) sector
