-- What a sector reads as once it is rewritten, whole or with its record in another state.
use Rattle.std.proofs.Common.{◌≡◌, ◌≢◌, ℕ, ◌==◌, true, List, length, Option, Some, None, Result, Ok, Err, refl, sym, ap, ◌∙◌, arith, eqb-true}
use Rattle.std.specs.Result.{result_unwrap_or}
use Rattle.std.proofs.lemmas.Bool.Decides.{nat_tests}
use Rattle.std.proofs.lemmas.Grind.{common_steps}
use Rattle.otadata.specs.declared.records.Record.{Record}
use Rattle.otadata.specs.declared.states.State.{State}
use Rattle.otadata.specs.State.{state_of}
use Rattle.otadata.specs.Record.{Reading, read, fields, bytes_of, with_state as record_with, label_field, sequence_field, state_field}
use Rattle.otadata.proofs.RoundTrip.{read_bytes_of, is_sequence_read}
use Rattle.sectors.specs.declared.rewriting.Refusal.{Refusal}
use Rattle.sectors.specs.Sector.{record_in, read_sector}
use Rattle.sectors.specs.Rewrite.{cut, rewrite, in_other_state, rewritten_with, restated}
use Rattle.sectors.proofs.Stores.{length-cut}
use Rattle.sectors.proofs.Cuts.{finished_record}

-- ---- a whole rewrite

-- with the right sizes
pub rewritten : (s bytes : List ℕ) → length s ≡ 4096 → length bytes ≡ 32 → rewrite s bytes ≡ Ok (cut bytes 4128 s)
rewritten s bytes size size_bytes = simp (size, size_bytes)

-- the bytes that it leaves read as its record
pub rewritten_reads : (s bytes : List ℕ) → length s ≡ 4096 → length bytes ≡ 32 → read_sector (result_unwrap_or (rewrite s bytes) s) ≡ read bytes
rewritten_reads s bytes size size_bytes =
    ap (λ (r : Result (List ℕ) Refusal). read_sector (result_unwrap_or r s)) (rewritten s bytes size size_bytes)
    ∙ ap read (finished_record bytes s size size_bytes)

-- refused or not, a rewrite keeps the size
pub length-rewritten : (s bytes : List ℕ) → length (result_unwrap_or (rewrite s bytes) s) ≡ length s
length-rewritten s bytes = grind (arith, nat_tests, length-cut s bytes 4128)

-- ---- a record that was read

-- its label has 20 bytes
label_of : (bytes : List ℕ) (state : Option State) (r : Record) → record_with bytes state ≡ Ok r → r.label ≡ label_field bytes
label_of bytes None r is = cc
label_of bytes (Some state) r is =
    let e : record { sequence = record { 0 = sequence_field bytes }; label = label_field bytes; state = state } ≡ r = cc in
    sym (ap (λ (x : Record). x.label) e)

length-label : (bytes : List ℕ) → length bytes ≡ 32 → length (label_field bytes) ≡ 20
length-label bytes size = grind (arith, common_steps)

label_read : (bytes : List ℕ) (r : Record) → read bytes ≡ Ok r → length r.label ≡ 20
unfolding read
label_read bytes r is =
    let tests : ((length bytes == 32) ≡ true) × (record_with bytes (state_of (state_field bytes)) ≡ Ok r) = grind (arith, nat_tests) in
    let label = label_of bytes (state_of (state_field bytes)) r tests.1 in
    let size : length bytes ≡ 32 = eqb-true _ 32 tests.0 in
    ap length label ∙ length-label bytes size

pub length-bytes_of : (r : Record) → length r.label ≡ 20 → length (bytes_of r) ≡ 32
unfolding fields
length-bytes_of r size = grind (arith, common_steps)

-- its sector has 4,096 bytes
pub size_of_good : (s : List ℕ) (r : Record) → read_sector s ≡ Ok r → length s ≡ 4096
unfolding record_in read
size_of_good s r is_ok = grind (arith, nat_tests)

-- so has what is written with it
pub size_of_changed : (state : State) (s : List ℕ) (r : Record) → read_sector s ≡ Ok r → length (bytes_of (record r { state = state })) ≡ 32
size_of_changed state s r is = length-bytes_of (record r { state = state }) (label_read (record_in s) r is)

-- ---- a change of state

by_reading : (state : State) (s : List ℕ) (reading : Reading) → read_sector s ≡ reading
    → read_sector (rewritten_with (in_other_state state reading) s) ≡ in_other_state state reading
by_reading state s (Err fault) is = is
by_reading state s (Ok r) is =
    let changed : Record = record r { state = state } in
    rewritten_reads s (bytes_of changed) (size_of_good s r is) (size_of_changed state s r is)
    ∙ read_bytes_of changed (label_read (record_in s) r is) (is_sequence_read (record_in s) r is)

-- the sector then reads as its record in the other state
pub restated_reads : (state : State) (s : List ℕ) → read_sector (restated state s) ≡ in_other_state state (read_sector s)
unfolding restated
restated_reads state s = by_reading state s (read_sector s) refl

pub record_restated : (state : State) (s : List ℕ) (r : Record) → read_sector s ≡ Ok r
    → restated state s ≡ result_unwrap_or (rewrite s (bytes_of (record r { state = state }))) s
unfolding restated
record_restated state s r is = ap (λ (reading : Reading). rewritten_with (in_other_state state reading) s) is

none_by : (state : State) (s : List ℕ) (reading : Reading) → ((r : Record) → reading ≢ Ok r) → rewritten_with (in_other_state state reading) s ≡ s
none_by state s (Err fault) none = refl
none_by state s (Ok r) none = absurd (none r refl)

-- a sector without a good record stays as it is
pub none_restated : (state : State) (s : List ℕ) → ((r : Record) → read_sector s ≢ Ok r) → restated state s ≡ s
unfolding restated
none_restated state s none = none_by state s (read_sector s) none

size_by : (s : List ℕ) (reading : Reading) → length (rewritten_with reading s) ≡ length s
size_by s (Err fault) = refl
size_by s (Ok r) = length-rewritten s (bytes_of r)

-- it keeps its size
pub length-restated : (state : State) (s : List ℕ) → length (restated state s) ≡ length s
unfolding restated
length-restated state s = size_by s (in_other_state state (read_sector s))
