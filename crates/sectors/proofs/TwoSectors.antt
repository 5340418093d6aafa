-- The two sectors of otadata: what is written into one of them, and what both then read as.
use Rattle.std.proofs.Common.{◌≡◌, ◌≢◌, ℕ, zero, suc, ◌+◌, ◌-◌, ◌*◌, ◌<◌, ◌≤◌, Bool, true, false, if◌then◌else◌, List, [], ◌∷◌, ◌++◌, take, drop, length, get_or, set, Ok, refl, sym, ap, ◌∙◌, arith, length-take, length-drop, length-take-le}
use Rattle.std.specs.Result.{result_unwrap_or}
use Rattle.std.proofs.lemmas.List.{take_at, drop_at, length-append}
use Rattle.otadata.specs.declared.records.Record.{Record}
use Rattle.otadata.specs.declared.states.State.{State}
use Rattle.otadata.specs.Record.{Reading, read}
use Rattle.sectors.specs.Sector.{read_sector}
use Rattle.sectors.specs.Rewrite.{rewrite, in_other_state, restated}
use Rattle.sectors.specs.Otadata.{sector_at, with_sector, readings_of, with_state, rewrite_at}
use Rattle.sectors.proofs.Slices.{slice_same, slice_replaced, bytes_left_at}
use Rattle.sectors.proofs.Restating.{none_restated, restated_reads, length-restated, length-rewritten, rewritten_reads}

-- what holds of sectors 0 and 1 holds of every k below 2
two : (P : ℕ → Type 0) → P 0 → P 1 → (k : ℕ) → k < 2 → P k
two P at_0 at_1 zero below = at_0
two P at_0 at_1 (suc zero) below = at_1
two P at_0 at_1 (suc (suc k)) below = absurd (omega arith)

-- ---- one sector of otadata

pub with_same : (k : ℕ) (o : List ℕ) → with_sector k (sector_at k o) o ≡ o
with_same k o = slice_same (k * 4096) 4096 o

module _ (k : ℕ) (o : List ℕ) (fits : k * 4096 + 4096 ≤ length o) where
  pub sector_size : length (sector_at k o) ≡ 4096
  sector_size = length-take-le 4096 (drop (k * 4096) o) (omega (arith, length-drop (k * 4096) o))

  module _ (s : List ℕ) (sector : length s ≡ 4096) where
    pub with_sector_size : length (with_sector k s o) ≡ length o
    with_sector_size =
        omega (
          arith,
          length-append (take (k * 4096) o) (s ++ drop 4096 (drop (k * 4096) o)),
          length-append s (drop 4096 (drop (k * 4096) o)),
          length-take (k * 4096) o,
          length-drop 4096 (drop (k * 4096) o),
          length-drop (k * 4096) o,
        )

    pub sector_same : sector_at k (with_sector k s o) ≡ s
    sector_same = slice_replaced (k * 4096) 4096 s o (sector ∙ sym sector_size)

sector_other : (k : ℕ) → k < 2 → (o : List ℕ) → length o ≡ 8192 → (s : List ℕ) → length s ≡ 4096
    → sector_at (1 - k) (with_sector k s o) ≡ sector_at (1 - k) o
sector_other k below o size s sector =
    two (λ j. sector_at (1 - j) (with_sector j s o) ≡ sector_at (1 - j) o)
    (ap (take 4096) (drop_at s (drop 4096 o) 4096 sector))
    (take_at (take 4096 o) (s ++ drop 4096 (drop 4096 o)) 4096 (length-take-le 4096 o (omega arith)))
    k below

-- ---- another state in one sector

module _ (state : State) (k : ℕ) (o : List ℕ) where
  -- without a good record there is no state to change
  pub with_state_none : ((r : Record) → read_sector (sector_at k o) ≢ Ok r) → with_state state k o ≡ o
  with_state_none none = ap (λ (s : List ℕ). with_sector k s o) (none_restated state (sector_at k o) none) ∙ with_same k o

  module _ (fits : k * 4096 + 4096 ≤ length o) where
    restated_sector : length (restated state (sector_at k o)) ≡ 4096
    restated_sector = length-restated state (sector_at k o) ∙ sector_size k o fits

    pub with_state_same : sector_at k (with_state state k o) ≡ restated state (sector_at k o)
    with_state_same = sector_same k o fits (restated state (sector_at k o)) restated_sector

  module _ (below : k < 2) (size : length o ≡ 8192) where
    within : k * 4096 + 4096 ≤ length o
    within = omega arith

    pub with_state_size : length (with_state state k o) ≡ 8192
    with_state_size = with_sector_size k o within (restated state (sector_at k o)) (restated_sector within) ∙ size

    pub with_state_other : sector_at (1 - k) (with_state state k o) ≡ sector_at (1 - k) o
    with_state_other = sector_other k below o size (restated state (sector_at k o)) (restated_sector within)

    pub with_state_reading : (r : Record) → read_sector (sector_at k o) ≡ Ok r
        → read_sector (sector_at k (with_state state k o)) ≡ Ok (record r { state = state })
    with_state_reading r is =
        ap read_sector (with_state_same within) ∙ restated_reads state (sector_at k o) ∙ ap (in_other_state state) is

    -- under a test
    pub tested_size : (b : Bool) → length (if b then with_state state k o else o) ≡ 8192
    tested_size true = with_state_size
    tested_size false = size

    pub tested_other : (b : Bool) → sector_at (1 - k) (if b then with_state state k o else o) ≡ sector_at (1 - k) o
    tested_other true = with_state_other
    tested_other false = refl

-- ---- another record in one sector

-- otadata as a whole rewrite of sector k leaves it
abbrev pub with_record : List ℕ → ℕ → List ℕ → List ℕ
with_record bytes k o = result_unwrap_or (rewrite_at k o bytes) o

module _ (bytes : List ℕ) (sized : length bytes ≡ 32) (k : ℕ) (below : k < 2) (o : List ℕ) (size : length o ≡ 8192) where
  fits_k : k * 4096 + 4096 ≤ length o
  fits_k = omega arith

  there : length (sector_at k o) ≡ 4096
  there = sector_size k o fits_k

  length-left : length (result_unwrap_or (rewrite (sector_at k o) bytes) (sector_at k o)) ≡ 4096
  length-left = length-rewritten (sector_at k o) bytes ∙ there

  put : with_record bytes k o ≡ with_sector k (result_unwrap_or (rewrite (sector_at k o) bytes) (sector_at k o)) o
  put = sym (bytes_left_at k o (rewrite (sector_at k o) bytes))

  pub with_record_size : length (with_record bytes k o) ≡ 8192
  with_record_size = ap length put ∙ with_sector_size k o fits_k (result_unwrap_or (rewrite (sector_at k o) bytes) (sector_at k o)) length-left ∙ size

  pub with_record_other : sector_at (1 - k) (with_record bytes k o) ≡ sector_at (1 - k) o
  with_record_other = ap (sector_at (1 - k)) put ∙ sector_other k below o size (result_unwrap_or (rewrite (sector_at k o) bytes) (sector_at k o)) length-left

  pub with_record_reading : read_sector (sector_at k (with_record bytes k o)) ≡ read bytes
  with_record_reading =
      ap (λ (x : List ℕ). read_sector (sector_at k x)) put
      ∙ ap read_sector (sector_same k o fits_k (result_unwrap_or (rewrite (sector_at k o) bytes) (sector_at k o)) length-left)
      ∙ rewritten_reads (sector_at k o) bytes there sized

-- ---- both readings

pub readings_at : (k : ℕ) → k < 2 → (o : List ℕ) (d : Reading) → get_or (readings_of o) k d ≡ read_sector (sector_at k o)
readings_at k below o d = two (λ j. get_or (readings_of o) j d ≡ read_sector (sector_at j o)) refl refl k below

-- one of them is replaced
pub readings_replaced : (state : State) (k : ℕ) → k < 2 → (o : List ℕ) → length o ≡ 8192
    → readings_of (with_state state k o) ≡ set (readings_of o) k (read_sector (sector_at k (with_state state k o)))
readings_replaced state k below o size =
    two (λ j. readings_of (with_state state j o) ≡ set (readings_of o) j (read_sector (sector_at j (with_state state j o))))
    (ap (λ (s : List ℕ). read_sector (sector_at 0 (with_state state 0 o)) ∷ read_sector s ∷ []) (with_state_other state 0 o (omega arith) size))
    (ap (λ (s : List ℕ). read_sector s ∷ read_sector (sector_at 1 (with_state state 1 o)) ∷ []) (with_state_other state 1 o (omega arith) size))
    k below

-- as code replaces it
pub one_replaced : (state : State) (k : ℕ) → k < 2 → (o : List ℕ) → length o ≡ 8192 → (rs : List Reading) → rs ≡ readings_of o
    → (left : List ℕ) → left ≡ with_state state k o → (r : Reading) → r ≡ read_sector (sector_at k left) → set rs k r ≡ readings_of left
one_replaced state k below o size rs read left put r again =
    simp (read, again, put, ← readings_replaced state k below o size)
