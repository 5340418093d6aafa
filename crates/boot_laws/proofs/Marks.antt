-- What a mark leaves of a sector: its bytes, or its record in another state. Its size stays.
-- Assumes nothing.
use Rattle.std.proofs.Common.{◌≡◌, ◌==◌, ◌&&◌, ℕ, Bool, true, false, if◌then◌else◌, List, length, Some, Ok, Err, refl, sym, ap, ◌∙◌, ◌⊎◌, inl, inr, eqb-true}
use Rattle.otadata.specs.declared.records.Record.{Record}
use Rattle.otadata.specs.declared.states.State.{State}
use Rattle.otadata.specs.declared.states.State.TheVariants.{New, Pending, Valid, Invalid, Aborted, Undefined}
use Rattle.otadata.specs.State.{word_of, state_of}
use Rattle.otadata.specs.Record.{Reading, in_state}
use Rattle.sectors.specs.Sector.{read_sector}
use Rattle.sectors.specs.Rewrite.{in_other_state, restated}
use Rattle.sectors.proofs.Restating.{restated_reads, length-restated}
use Rattle.node.specs.declared.Settings.{Settings}
use Rattle.boot.specs.Boot.{marked}

-- with rollback on, a sector with the record of another, changed from one state to the other
pub record Restates (settings : Settings) (from to : State) (before after : List ℕ) : Type 0 where
  pub rollback : settings.rollback ≡ true
  pub old : Record
  pub was : read_sector before ≡ Ok old
  pub from_state : old.state ≡ from
  pub is : read_sector after ≡ Ok (record old { state = to })

-- a sector keeps its bytes, or its record is changed so
abbrev pub KeptOr : Settings → State → State → List ℕ → List ℕ → Type 0
KeptOr settings from to before after = (after ≡ before) ⊎ Restates settings from to before after

state_of-word_of : (state : State) → state_of (word_of state) ≡ Some state
state_of-word_of New = refl
state_of-word_of Pending = refl
state_of-word_of Valid = refl
state_of-word_of Invalid = refl
state_of-word_of Aborted = refl
state_of-word_of Undefined = refl

same_some : {A : Type 0} {x y : A} → Some x ≡ Some y → x ≡ y
same_some e = cc

same_state : (a b : State) → (word_of a == word_of b) ≡ true → a ≡ b
same_state a b same = same_some (sym (state_of-word_of a) ∙ ap state_of (eqb-true (word_of a) (word_of b) same) ∙ state_of-word_of b)

both_true : (a b : Bool) → (a && b) ≡ true → (a ≡ true) × (b ≡ true)
both_true true b is = (refl, is)
both_true false b is = absurd cc

-- the record that is due for the mark
due_record : (from : State) (reading : Reading) → in_state from reading ≡ true → (r : Record) × ((reading ≡ Ok r) × (r.state ≡ from))
due_record from (Ok r) is = (r, (refl, same_state r.state from is))
due_record from (Err fault) is = absurd cc

module _ (settings : Settings) (from to : State) (s : List ℕ) where
  marked_if : (due : Bool) → (settings.rollback && in_state from (read_sector s)) ≡ due
      → KeptOr settings from to s (if due then restated to s else s)
  marked_if false is = inl refl
  marked_if true is =
      let tests = both_true settings.rollback (in_state from (read_sector s)) is in
      let found = due_record from (read_sector s) tests.1 in
      inr (record { rollback = tests.0; old = found.0; was = found.1.0; from_state = found.1.1; is = restated_reads to s ∙ ap (in_other_state to) found.1.0 })

  pub marks : KeptOr settings from to s (marked settings from to s)
  unfolding marked
  marks = marked_if (settings.rollback && in_state from (read_sector s)) refl

  length_if : (due : Bool) → length (if due then restated to s else s) ≡ length s
  length_if true = length-restated to s
  length_if false = refl

  pub length-marked : length (marked settings from to s) ≡ length s
  unfolding marked
  length-marked = length_if (settings.rollback && in_state from (read_sector s))

  pub no_rollback : settings.rollback ≡ false → marked settings from to s ≡ s
  unfolding marked
  no_rollback off = simp off
