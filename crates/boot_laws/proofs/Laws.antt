-- What holds of every boot, on any bytes: which app is started, and what is changed.
-- Assumes nothing.
use Rattle.std.proofs.Common.{◌≡◌, ◌≢◌, ℕ, Bool, true, false, List, ◌++◌, length, take, drop, Option, Some, None, Result, Ok, Err, is_some, ◌⊎◌, inl, inr, subst, refl, sym, ap, ap₂, ◌∙◌, arith, ltb-false, take-append-drop}
use Rattle.std.specs.Prelude.{IsOk}
use Rattle.std.specs.Result.{result_ok}
use Rattle.otadata.specs.declared.records.Sequence.{Sequence}
use Rattle.otadata.specs.declared.states.State.{State}
use Rattle.otadata.specs.declared.states.State.TheVariants.{New, Pending, Aborted}
use Rattle.otadata.specs.Record.{Reading}
use Rattle.sectors.specs.declared.reading.SectorNumber.{SectorNumber}
use Rattle.sectors.specs.declared.reading.SectorNumber.TheVariants.{Zero, One}
use Rattle.sectors.specs.Sector.{read_sector, usable_sequence}
use Rattle.partitions.specs.declared.list.App.{App}
use Rattle.app_image.specs.declared.Facts.{Facts}
use Rattle.app_image.specs.declared.refusal.ImageRefusal.{ImageRefusal}
use Rattle.app_image.specs.Check.{check}
use Rattle.app_image.specs.Laws.{AcceptedFits, AcceptedWithin}
use Rattle.app_image.proofs.Acceptance.{accepted_fits, accepted_within}
use Rattle.node.specs.declared.Settings.{Settings}
use Rattle.node.specs.declared.Node.{Node}
use Rattle.node.specs.declared.refusal.Refusal.{Refusal}
use Rattle.node.specs.declared.refusal.Refusal.TheVariants.{BelowEfuse}
use Rattle.node.specs.Node.{otadata_size, image, image_test, admitted, passing}
use Rattle.node.specs.Refusal.{number_of, ◌>>=◌, ◌>>◌, refuse_if}
use Rattle.node.specs.Settings.{efuse_version, is_below_efuse}
use Rattle.boot_choice.specs.declared.Choice.{Choice}
use Rattle.boot_choice.specs.Choice.{choice}
use Rattle.boot_choice.specs.declared.Choice.TheVariants.{Recorded, Factory, Found}
use Rattle.boot.specs.declared.Start.{Start}
use Rattle.boot.specs.Boot.{settled, first_of, second_of, reply_by, reply_of, boot_reply, pended_by}
use Rattle.boot.specs.Answer.{register_of}
use Rattle.boot_laws.specs.Laws.{Boot, accepted, reply, sector, marked, UsableAt, NotBelow, NeverLaw, OfImage, ImageLaw, AcceptanceLaw, RefusalLaw, Change, OtherState, StateLaw}
use Rattle.boot_laws.proofs.Marks.{Restates, KeptOr}
use Rattle.boot_laws.proofs.Choices.{reading_at, Always, Sound}
use Rattle.boot_laws.proofs.Boots.{second_is, OneToThree, tests_decide, accepted_is, reply_accepted, after_marks, reply_with, left_with, SoundAfterMarks, every_boot}
use Rattle.boot_laws.proofs.Changes.{settles, no_settling, pends, no_pending, left_size, left_sector, usable_before, usable_after}

-- ---- an app that passes

-- its image is accepted, and its version not below that of the register
record Passing (node : Node) (app : App) (facts : Facts) : Type 0 where
  is_accepted : check (image node app) node.settings.board ≡ Ok facts
  not_below : is_below_efuse node.settings facts.version ≡ false

held_if : (below : Bool) (found facts : Facts) → result_ok (refuse_if below BelowEfuse >> Ok found) ≡ Some facts → (below ≡ false) × (found ≡ facts)
held_if true found facts is = absurd cc
held_if false found facts is = (refl, cc)

held_by : (settings : Settings) (checked : Result Facts ImageRefusal) (facts : Facts)
    → result_ok (image_test checked >>= (λ found. refuse_if (is_below_efuse settings found.version) BelowEfuse >> Ok found)) ≡ Some facts
    → (checked ≡ Ok facts) × (is_below_efuse settings facts.version ≡ false)
held_by settings (Err refusal) facts is = absurd cc
held_by settings (Ok found) facts is =
    let tests = held_if (is_below_efuse settings found.version) found facts is in
    (ap Ok tests.1, subst (λ (f : Facts). is_below_efuse settings f.version ≡ false) tests.1 tests.0)

passing_is : (node : Node) (app : App) (facts : Facts) → passing node app ≡ Some facts → Passing node app facts
unfolding passing admitted
passing_is node app facts is =
    let tests = held_by node.settings (check (image node app) node.settings.board) facts is in
    record { is_accepted = tests.0; not_below = tests.1 }

-- ---- a start

no_start : {start : Start} {refusal : Refusal} → ◌≡◌ {A = Result Start Refusal} (Err refusal) (Ok start) → ⊥
no_start e = cc

pub same_start : {x y : Start} → ◌≡◌ {A = Result Start Refusal} (Ok x) (Ok y) → x ≡ y
same_start e = cc

same_refusal : {x y : Refusal} → ◌≡◌ {A = Result Start Refusal} (Err x) (Err y) → x ≡ y
same_refusal e = cc

-- a start is of an app that passes, with the facts of its image
module _ (node : Node) (first second : Reading) (readings : List Reading) where
  start_passes : (made : Option Choice) → Always made (Sound node first second) → (start : Start) → reply_by node.settings readings made ≡ Ok start
      → passing node start.app ≡ Some start.facts
  start_passes None sound start e = absurd cc
  start_passes (Some (Recorded k slot facts)) sound start e =
      let same = same_start e in
      subst (λ (s : Start). passing node s.app ≡ Some s.facts) same (sound (Recorded k slot facts) refl).passes
  start_passes (Some (Factory facts)) sound start e =
      let same = same_start e in
      subst (λ (s : Start). passing node s.app ≡ Some s.facts) same (sound (Factory facts) refl)
  start_passes (Some (Found slot facts)) sound start e =
      let same = same_start e in
      subst (λ (s : Start). passing node s.app ≡ Some s.facts) same (sound (Found slot facts) refl)

  -- one through a sector came through its usable record
  came_through : (made : Option Choice) → Always made (Sound node first second) → (start : Start) (k : SectorNumber)
      → reply_by node.settings readings made ≡ Ok start → start.through ≡ Some k → (q : Sequence) × (usable_sequence (reading_at first second k) ≡ Some q)
  came_through None sound start k e through = absurd cc
  came_through (Some (Recorded j slot facts)) sound start k e through =
      let same : j ≡ k = cc (same_start e, through) in
      let from = sound (Recorded j slot facts) refl in
      subst (λ (i : SectorNumber). (q : Sequence) × (usable_sequence (reading_at first second i) ≡ Some q)) same (from.sequence, from.is_usable)
  came_through (Some (Factory facts)) sound start k e through = absurd (cc (same_start e, through))
  came_through (Some (Found slot facts)) sound start k e through = absurd (cc (same_start e, through))

-- ---- which app is started

-- every boot of an accepted node
module _ (boot : Boot) (node : Node) (of_boot : accepted boot ≡ Ok node) (made : Option Choice) (sound : Always made (SoundAfterMarks node boot.otadata)) where
  usable_marked : length boot.otadata ≡ otadata_size → (k : SectorNumber) (q : Sequence)
      → usable_sequence (reading_at (read_sector (first_of node.settings boot.otadata)) (read_sector (second_of node.settings boot.otadata)) k) ≡ Some q
      → usable_sequence (read_sector (settled node.settings (sector k boot.otadata))) ≡ Some q
  usable_marked size Zero q usable = usable
  usable_marked size One q usable = rw (second_is boot.otadata size) usable

  usable_both : (start : Start) (k : SectorNumber) → reply_with node boot.otadata made ≡ Ok start → start.through ≡ Some k
      → UsableAt k boot.otadata × UsableAt k (left_with node boot.otadata made)
  usable_both start k e through =
      let size = (accepted_is boot node of_boot).size in
      let from = came_through node (read_sector (first_of node.settings boot.otadata)) (read_sector (second_of node.settings boot.otadata)) (after_marks node boot.otadata) made sound start k e through in
      let s = sector k boot.otadata in
      let now = usable_marked size k from.0 from.1 in
      let before = usable_before node.settings s (settled node.settings s) from.0 (settles node.settings s) now in
      let after = usable_after node.settings (settled node.settings s) (pended_by node.settings k made (settled node.settings s)) from.0 (pends node.settings (settled node.settings s) k made) now in
      (ap is_some before, ap (λ t. is_some (usable_sequence (read_sector t))) (left_sector node boot.otadata size made k) ∙ ap is_some after)

  passes : (start : Start) → reply_with node boot.otadata made ≡ Ok start → Passing node start.app start.facts
  passes start e =
      passing_is node start.app start.facts
      (start_passes node (read_sector (first_of node.settings boot.otadata)) (read_sector (second_of node.settings boot.otadata)) (after_marks node boot.otadata) made sound start e)

  starts_not_below : (start : Start) → reply_with node boot.otadata made ≡ Ok start → NotBelow boot start.app
  starts_not_below start e =
      let p = passes start e in
      let same = (accepted_is boot node of_boot).same_settings in
      record {
        node = node;
        of_boot = of_boot;
        facts = start.facts;
        is_accepted = ap (λ (s : Settings). check (image node start.app) s.board) (sym same) ∙ p.is_accepted;
        not_below = λ (on : boot.settings.anti_rollback ≡ true). ltb-false start.facts.version.0 (efuse_version boot.settings) (rw (same, on) at p.not_below);
      }

  starts_image : (start : Start) → reply_with node boot.otadata made ≡ Ok start → OfImage boot start.app start.facts.length start.facts.entry
  unfolding AcceptedFits AcceptedWithin
  starts_image start e =
      let p = passes start e in
      let same = (accepted_is boot node of_boot).same_settings in
      let is_accepted = ap (λ (s : Settings). check (image node start.app) s.board) (sym same) ∙ p.is_accepted in
      record {
        node = node;
        of_boot = of_boot;
        facts = start.facts;
        is_accepted = is_accepted;
        fits = accepted_fits (image node start.app) boot.settings.board start.facts is_accepted;
        same_length = refl;
        same_entry = refl;
        within = accepted_within (image node start.app) boot.settings.board start.facts is_accepted;
      }

pub never_law : NeverLaw
unfolding NeverLaw
never_law boot =
    let all =
    every_boot boot
    (λ (r : Result Start Refusal) (left : List ℕ).
    ((start : Start) (k : SectorNumber) → r ≡ Ok start → start.through ≡ Some k → UsableAt k boot.otadata × UsableAt k left)
    × ((start : Start) → r ≡ Ok start → NotBelow boot start.app))
    (λ refusal is. (λ start k e through. absurd (no_start e), λ start e. absurd (no_start e)))
    (λ node of_boot made sound. (usable_both boot node of_boot made sound, starts_not_below boot node of_boot made sound)) in
    record { through_usable = all.0; not_below = all.1 }

pub image_law : ImageLaw
unfolding ImageLaw
image_law boot start =
    every_boot boot (λ (r : Result Start Refusal) (left : List ℕ). r ≡ Ok start → OfImage boot start.app start.facts.length start.facts.entry)
    (λ refusal is e. absurd (no_start e))
    (λ node of_boot made sound. starts_image boot node of_boot made sound start)

-- ---- when a boot is refused

only_ten : (settings : Settings) (readings : List Reading) (made : Option Choice) (refusal : Refusal) → reply_by settings readings made ≡ Err refusal
    → (made ≡ None) × (number_of refusal ≡ 10)
only_ten settings readings None refusal e = (refl, ap number_of (sym (same_refusal e)))
only_ten settings readings (Some made) refusal e = absurd (no_start (sym e))

node_is : (r : Result Node Refusal) → IsOk r → (node : Node) × (r ≡ Ok node)
node_is (Ok node) is = (node, refl)
node_is (Err refusal) is = absurd cc

-- where no node is accepted, the refusal is that of the tests
not_accepted : (otadata : List ℕ) (r : Result Node Refusal) → (IsOk r → ⊥) → (refusal : Refusal) × ((r ≡ Err refusal) × (reply_of otadata r ≡ Err refusal))
not_accepted otadata (Ok node) not = absurd (not refl)
not_accepted otadata (Err refusal) not = (refusal, (refl, refl))

numbered_by : (boot : Boot) (refusal : Refusal) → accepted boot ≡ Err refusal → OneToThree refusal
numbered_by boot refusal =
    tests_decide boot.words boot.flash (length boot.otadata) boot.settings (λ (r : Result Node Refusal). r ≡ Err refusal → OneToThree refusal)
    (λ given numbered e. subst OneToThree (cc e) numbered)
    (λ list listed size e. absurd cc)

pub acceptance_law : AcceptanceLaw
unfolding AcceptanceLaw boot_reply
acceptance_law boot =
    record {
      accepting = λ accepts refusal e.
          let found = node_is (accepted boot) accepts in
          (only_ten found.0.settings (after_marks found.0 boot.otadata) (choice found.0 (after_marks found.0 boot.otadata)) refusal (sym (reply_accepted boot found.0 found.1) ∙ e)).1;
      not_accepting = λ not.
          let found = not_accepted boot.otadata (accepted boot) not in
          let numbered = numbered_by boot found.0 found.1.0 in
          (found.0, (found.1.1, numbered.0, numbered.1));
    }

-- ---- what a refusal changes

register_kept : (settings : Settings) (r : Result Start Refusal) (refusal : Refusal) → r ≡ Err refusal → register_of settings r ≡ settings.efuse
register_kept settings (Ok start) refusal e = absurd (no_start (sym e))
register_kept settings (Err given) refusal e = refl

-- what a refusal leaves
record Keeps (boot : Boot) (refusal : Refusal) (left : List ℕ) : Type 0 where
  marks : number_of refusal ≡ 10 → left ≡ marked boot.settings boot.otadata
  nothing : number_of refusal ≢ 10 → left ≡ boot.otadata

pub refusal_law : RefusalLaw
unfolding RefusalLaw
refusal_law boot refusal e =
    let kept =
    every_boot boot (λ (r : Result Start Refusal) (left : List ℕ). r ≡ Err refusal → Keeps boot refusal left)
    (λ given is e.
    let numbered = numbered_by boot given is in
    let same = ap number_of (same_refusal e) in
    record { marks = λ ten. absurd (omega (arith, numbered.1, same, ten)); nothing = λ not. refl })
    (λ node of_boot made sound e.
    let ten = only_ten node.settings (after_marks node boot.otadata) made refusal e in
    record {
      marks = λ is.
          ap (left_with node boot.otadata) ten.0
          ∙ ap (λ (s : Settings). marked s boot.otadata) (accepted_is boot node of_boot).same_settings;
      nothing = λ not. absurd (not ten.1);
    })
    e in
    record { register = register_kept boot.settings (reply boot) refusal e; marks = kept.marks; nothing = kept.nothing }

-- ---- what a boot changes

other_state : {settings : Settings} {from to : State} {before after : List ℕ} → Change from to → Restates settings from to before after → OtherState before after
other_state {to = to} change r =
    record { old = r.old; now = to; was = r.was; is = r.is; change = rw r.from_state change }

-- by both steps: a record marked as aborted isn't new
both_steps : {settings : Settings} {s m t : List ℕ} → KeptOr settings Pending Aborted s m → KeptOr settings New Pending m t → (t ≡ s) ⊎ OtherState s t
both_steps (inl e) (inl f) = inl (f ∙ e)
both_steps {t = t} (inl e) (inr r) = inr (subst (λ (x : List ℕ). OtherState x t) e (other_state (inr (refl, refl)) r))
both_steps {s = s} (inr r) (inl f) = inr (subst (OtherState s) (sym f) (other_state (inl (refl, refl)) r))
both_steps (inr r) (inr again) = absurd (let aborted : Aborted ≡ New = cc (r.is, again.was, again.from_state) in cc)

module _ (boot : Boot) (node : Node) (of_boot : accepted boot ≡ Ok node) (made : Option Choice) where
  abbrev after : List ℕ
  after = left_with node boot.otadata made

  same_size : length after ≡ length boot.otadata
  same_size =
      let size = (accepted_is boot node of_boot).size in
      left_size node boot.otadata size made ∙ sym size

  state_of_sector : (k : SectorNumber) → (sector k after ≡ sector k boot.otadata) ⊎ OtherState (sector k boot.otadata) (sector k after)
  state_of_sector k =
      let s = sector k boot.otadata in
      rw (left_sector node boot.otadata (accepted_is boot node of_boot).size made k)
      (both_steps (settles node.settings s) (pends node.settings (settled node.settings s) k made))

  nothing_changed : boot.settings.rollback ≡ false → after ≡ boot.otadata
  nothing_changed off =
      let node_off : node.settings.rollback ≡ false = ap (λ (s : Settings). s.rollback) (accepted_is boot node of_boot).same_settings ∙ off in
      let first = take 4096 boot.otadata in
      let second = drop 4096 boot.otadata in
      ap₂ (λ (a b : List ℕ). a ++ b)
      (no_pending node.settings (settled node.settings first) node_off Zero made ∙ no_settling node.settings first node_off)
      (no_pending node.settings (settled node.settings second) node_off One made ∙ no_settling node.settings second node_off)
      ∙ take-append-drop 4096 boot.otadata

pub state_law : StateLaw
unfolding StateLaw
state_law boot =
    let all =
    every_boot boot
    (λ (r : Result Start Refusal) (left : List ℕ).
    (length left ≡ length boot.otadata)
    × ((k : SectorNumber) → (sector k left ≡ sector k boot.otadata) ⊎ OtherState (sector k boot.otadata) (sector k left))
    × (boot.settings.rollback ≡ false → left ≡ boot.otadata))
    (λ refusal is. (refl, λ k. inl refl, λ off. refl))
    (λ node of_boot made sound. (same_size boot node of_boot made, state_of_sector boot node of_boot made, nothing_changed boot node of_boot made)) in
    record { size = all.0; sectors = all.1; without_rollback = all.2 }
