-- What a sector that a new record was written to reads as, and what step 1 of boot makes of a reading.
use Rattle.std.proofs.Common.{◌≡◌, ℕ, ◌&&◌, Bool, true, false, if◌then◌else◌, List, length, Ok, refl, ◌∙◌}
use Rattle.otadata.specs.declared.records.Sequence.{Sequence}
use Rattle.otadata.specs.declared.states.State.{State}
use Rattle.otadata.specs.declared.states.State.TheVariants.{Pending, Aborted}
use Rattle.otadata.specs.Record.{in_state, is_sequence, bytes_of}
use Rattle.otadata.proofs.RoundTrip.{read_bytes_of}
use Rattle.sectors.specs.Sector.{read_sector}
use Rattle.sectors.specs.Rewrite.{in_other_state, restated}
use Rattle.sectors.proofs.Restating.{restated_reads, length-bytes_of, rewritten_reads, length-rewritten}
use Rattle.node.specs.declared.Settings.{Settings}
use Rattle.boot.specs.Boot.{marked, settled}
use Rattle.update.specs.Invalid.{settled_reading}
use Rattle.update.specs.SetBoot.{new_record, overwritten}

-- ---- step 1 of boot

chosen_reads : (b : Bool) (state : State) (s : List ℕ)
    → read_sector (if b then restated state s else s) ≡ (if b then in_other_state state (read_sector s) else read_sector s)
chosen_reads true state s = restated_reads state s
chosen_reads false state s = refl

pub settled_reads : (settings : Settings) (s : List ℕ) → read_sector (settled settings s) ≡ settled_reading settings (read_sector s)
unfolding settled marked settled_reading
settled_reads settings s = chosen_reads (settings.rollback && in_state Pending (read_sector s)) Aborted s

-- ---- a new record

module _ (settings : Settings) (q : Sequence) (s : List ℕ) where
  pub length-overwritten : length (overwritten settings q s) ≡ length s
  unfolding overwritten
  length-overwritten = length-rewritten s (bytes_of (new_record settings q))

  pub overwritten_reads : length s ≡ 4096 → is_sequence q.0 ≡ true → read_sector (overwritten settings q s) ≡ Ok (new_record settings q)
  unfolding overwritten
  overwritten_reads size right =
      rewritten_reads s (bytes_of (new_record settings q)) size (length-bytes_of (new_record settings q) refl)
      ∙ read_bytes_of (new_record settings q) refl right
