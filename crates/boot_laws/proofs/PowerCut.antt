-- Whatever the cut rewrites leave of one sector, boot starts that sector's record where it prevails, and the untouched one elsewhere.
-- Assumes nothing.
use Rattle.std.proofs.Common.{◌≡◌, ℕ, Bool, true, false, if◌then◌else◌, List, [], ◌∷◌, length, Option, Some, None, Ok, Err, is_some, ◌⊎◌, inl, inr, ⊎_elim, subst, refl, sym, ap, ◌∙◌}
use Rattle.std.specs.Prelude.{IsSome, IsTrue}
use Rattle.otadata.specs.declared.records.Record.{Record}
use Rattle.otadata.specs.declared.records.Sequence.{Sequence}
use Rattle.otadata.specs.State.{is_usable}
use Rattle.otadata.specs.Record.{Reading}
use Rattle.sectors.specs.declared.reading.SectorNumber.{SectorNumber}
use Rattle.sectors.specs.declared.reading.SectorNumber.TheVariants.{Zero, One}
use Rattle.sectors.specs.Sector.{other_than, read_sector, usable_sequence, active}
use Rattle.sectors.specs.Otadata.{readings_of}
use Rattle.sectors.specs.PowerCut.{ReadingLaw}
use Rattle.sectors.proofs.ReadingLaw.{reading_law, after_size}
use Rattle.partitions.specs.declared.list.App.TheVariants.{OtaSlot}
use Rattle.app_image.specs.declared.Facts.{Facts}
use Rattle.node.specs.declared.Node.{Node}
use Rattle.node.specs.Node.{node_of, passing}
use Rattle.boot_choice.specs.declared.Choice.TheVariants.{Recorded}
use Rattle.boot_choice.specs.Choice.{choice}
use Rattle.boot.specs.declared.Start.{Start}
use Rattle.boot.specs.Boot.{settled, first_of, second_of}
use Rattle.boot_laws.specs.Laws.{Boot, accepted, reply, sector, marked, NeverLaw}
use Rattle.boot_laws.specs.PowerCut.{otadata_of, named_slot, Untouched, Prevails, StartsRecord, sector_left, next_boot, Demand3}
use Rattle.boot_laws.proofs.Choices.{reading_at, active_beside, through_own, through_other}
use Rattle.boot_laws.proofs.Boots.{both_sizes, first_sector, second_sector, first_of_size, second_of_size, marked_sector, marked_readings, after_marks, reply_chosen}
use Rattle.boot_laws.proofs.Changes.{left_alone}
use Rattle.boot_laws.proofs.Laws.{same_start, never_law}

-- ---- the two sectors side by side

module _ (own other : List ℕ) (own_size : length own ≡ 4096) (other_size : length other ≡ 4096) where
  pub otadata_size : (p : SectorNumber) → length (otadata_of p own other) ≡ 8192
  otadata_size Zero = both_sizes own other own_size other_size
  otadata_size One = both_sizes other own other_size own_size

  pub own_sector : (p : SectorNumber) → sector p (otadata_of p own other) ≡ own
  own_sector Zero = first_sector own other own_size other_size
  own_sector One = second_sector other own other_size own_size

  pub other_sector : (p : SectorNumber) → sector (other_than p) (otadata_of p own other) ≡ other
  other_sector Zero = second_sector own other own_size other_size
  other_sector One = first_sector other own other_size own_size

-- ---- small facts

some_is : {A : Type 0} (o : Option A) → IsSome o → (x : A) × (o ≡ Some x)
some_is None is = absurd cc
some_is (Some x) is = (x, refl)

usable_is : (r : Record) → IsTrue (is_usable r.state) → usable_sequence (Ok r) ≡ Some r.sequence
usable_is r usable = rw usable refl

sequence_if : (usable : Bool) (r : Record) (q : Sequence) → (if usable then Some r.sequence else None) ≡ Some q → r.sequence ≡ q
sequence_if true r q is = cc
sequence_if false r q is = absurd cc

record_is : (reading : Reading) (q : Sequence) → usable_sequence reading ≡ Some q → (r : Record) × ((reading ≡ Ok r) × (r.sequence ≡ q))
record_is (Ok r) q is = (r, (refl, sequence_if (is_usable r.state) r q is))
record_is (Err fault) q is = absurd cc

same_record : {a b : Record} → ◌≡◌ {A = Reading} (Ok a) (Ok b) → a ≡ b
same_record e = cc

same_sector : {j k : SectorNumber} → Some j ≡ Some k → j ≡ k
same_sector e = cc

other_is_another : (p : SectorNumber) → other_than p ≡ p → ⊥
other_is_another Zero e = cc
other_is_another One e = cc

-- ---- which record boot starts

-- the record of sector p prevails and is started, or it doesn't and the other one is
module _ (boot : Boot) (node : Node) (p : SectorNumber) (u : Record) where
  abbrev Started : SectorNumber → Record → Type 0
  Started = StartsRecord node (reply boot)

  abbrev Prevailing : Type 0
  Prevailing = Prevails node boot.otadata p

  abbrev EitherStarts : Type 0
  EitherStarts = ((w : Prevailing) × Started p w.own) ⊎ ((Prevailing → ⊥) × Started (other_than p) u)

  own_starts : EitherStarts → (w : Prevailing) → Started p w.own
  own_starts (inl (v, starts)) w = subst (Started p) (same_record (sym v.holds ∙ w.holds)) starts
  own_starts (inr (loses, starts)) w = absurd (loses w)

  own_only : EitherStarts → (start : Start) → reply boot ≡ Ok start → start.through ≡ Some p → Prevailing
  own_only (inl (w, starts)) start e through = w
  own_only (inr (loses, starts)) start e through =
      absurd (other_is_another p (same_sector (ap (λ (s : Start). s.through) (same_start (sym starts.starts ∙ e)) ∙ through)))

  other_starts : EitherStarts → (Prevailing → ⊥) → Started (other_than p) u
  other_starts (inl (w, starts)) loses = absurd (loses w)
  other_starts (inr (loses, starts)) not = starts

-- otadata with the untouched record in the other sector than p
module _ (boot : Boot) (node : Node) (accepts : accepted boot ≡ Ok node) (size : length boot.otadata ≡ 8192)
    (p : SectorNumber) (other : List ℕ) (u : Record) (untouched : Untouched node other u) (there : sector (other_than p) boot.otadata ≡ other) where
  abbrev first : Reading
  first = read_sector (first_of node.settings boot.otadata)

  abbrev second : Reading
  second = read_sector (second_of node.settings boot.otadata)

  -- the reading of a sector after the aborted marks
  reading_marked : (k : SectorNumber) → reading_at first second k ≡ read_sector (sector k (marked node.settings boot.otadata))
  reading_marked Zero =
      sym (ap read_sector (first_sector (first_of node.settings boot.otadata) (second_of node.settings boot.otadata)
      (first_of_size node.settings boot.otadata size) (second_of_size node.settings boot.otadata size)))
  reading_marked One =
      sym (ap read_sector (second_sector (first_of node.settings boot.otadata) (second_of node.settings boot.otadata)
      (first_of_size node.settings boot.otadata size) (second_of_size node.settings boot.otadata size)))

  -- the aborted marks leave the untouched sector alone
  other_unmarked : sector (other_than p) (marked node.settings boot.otadata) ≡ other
  other_unmarked =
      marked_sector node.settings boot.otadata size (other_than p)
      ∙ ap (settled node.settings) there
      ∙ left_alone node.settings other u untouched.holds untouched.not_pending

  other_usable : usable_sequence (reading_at first second (other_than p)) ≡ Some u.sequence
  other_usable =
      ap usable_sequence (reading_marked (other_than p) ∙ ap read_sector other_unmarked ∙ untouched.holds) ∙ usable_is u untouched.usable

  other_passes : (facts : Facts) × (passing node (OtaSlot (named_slot node u)) ≡ Some facts)
  other_passes = some_is (passing node (OtaSlot (named_slot node u))) untouched.passes

  starts : (k : SectorNumber) (r : Record) (facts : Facts) → passing node (OtaSlot (named_slot node r)) ≡ Some facts
      → choice node (after_marks node boot.otadata) ≡ Some (Recorded k (named_slot node r) facts)
      → StartsRecord node (reply boot) k r
  starts k r facts passes chosen =
      record { facts = facts; passes = passes; starts = reply_chosen boot node (Recorded k (named_slot node r) facts) accepts chosen }

  same_active : (found : Option SectorNumber) → active (first ∷ second ∷ []) ≡ found → active (readings_of (marked node.settings boot.otadata)) ≡ found
  same_active found is = ap active (marked_readings node.settings boot.otadata size) ∙ is

  other_active : active (first ∷ second ∷ []) ≡ Some (other_than p) → EitherStarts boot node p u
  other_active is =
      inr (
        (λ (w : Prevailing boot node p u). other_is_another p (same_sector (sym (same_active (Some (other_than p)) is) ∙ w.is_active))),
        starts (other_than p) u other_passes.0 other_passes.1 (by_other other_passes.0 other_passes.1),
      )
    where
      by_other : (facts : Facts) → passing node (OtaSlot (named_slot node u)) ≡ Some facts
          → choice node (after_marks node boot.otadata) ≡ Some (Recorded (other_than p) (named_slot node u) facts)
      by_other facts passes = through_own node first second (other_than p) u.sequence facts is other_usable passes

  -- the own record is active
  module _ (is : active (first ∷ second ∷ []) ≡ Some p) (own : Record) (holds : reading_at first second p ≡ Ok own)
      (usable : usable_sequence (reading_at first second p) ≡ Some own.sequence) where
    holds_marked : read_sector (sector p (marked node.settings boot.otadata)) ≡ Ok own
    holds_marked = sym (reading_marked p) ∙ holds

    by_passing : (answer : Option Facts) → passing node (OtaSlot (named_slot node own)) ≡ answer → EitherStarts boot node p u
    by_passing (Some facts) passes =
        inl (
          record { own = own; is_active = same_active (Some p) is; holds = holds_marked; passes = ap is_some passes },
          starts p own facts passes (through_own node first second p own.sequence facts is usable passes),
        )
    by_passing None fails =
        inr (
          (λ (w : Prevailing boot node p u).
              let same : w.own ≡ own = same_record (sym w.holds ∙ holds_marked) in
              let none : is_some (passing node (OtaSlot (named_slot node w.own))) ≡ false
              = ap (λ (r : Record). is_some (passing node (OtaSlot (named_slot node r)))) same ∙ ap is_some fails in
              cc (none, w.passes)),
          starts (other_than p) u other_passes.0 other_passes.1
              (through_other node first second p own.sequence u.sequence other_passes.0 is usable fails other_usable other_passes.1),
        )

  own_active : active (first ∷ second ∷ []) ≡ Some p → (q : Sequence) → usable_sequence (reading_at first second p) ≡ Some q → EitherStarts boot node p u
  own_active is q usable =
      let found = record_is (reading_at first second p) q usable in
      by_passing is found.0 found.1.0 (usable ∙ ap Some (sym found.1.1)) (passing node (OtaSlot (named_slot node found.0))) refl

  which_starts : EitherStarts boot node p u
  which_starts =
      ⊎_elim
      other_active
      (λ (own : (active (first ∷ second ∷ []) ≡ Some p) × ((q : Sequence) × (usable_sequence (reading_at first second p) ≡ Some q))).
      own_active own.0 own.1.0 own.1.1)
      (active_beside first second p u.sequence other_usable)

-- ---- the claim

pub demand_3 : Demand3
unfolding Demand3 ReadingLaw NeverLaw
demand_3 c given =
    let left = sector_left c in
    let boot = next_boot c in
    let left_size = after_size c.start c.calls c.before c.bytes c.k given.history in
    let size = otadata_size left c.other left_size given.untouched.size c.p in
    let there = other_sector left c.other left_size given.untouched.size c.p in
    let accepts = subst (λ (n : ℕ). node_of c.words c.flash n c.settings ≡ Ok c.node) (sym size) given.accepts in
    let either = which_starts boot c.node accepts size c.p c.other c.untouched given.untouched there in
    let reads = reading_law c.start c.calls c.before c.bytes c.k given.history in
    record {
      reads = reads.one_of;
      finished = reads.finished;
      own = own_starts boot c.node c.p c.untouched either;
      own_only = own_only boot c.node c.p c.untouched either;
      otherwise = other_starts boot c.node c.p c.untouched either;
      never = never_law boot;
    }
