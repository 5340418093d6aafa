-- What boot chooses by two readings: where a choice comes from, and what is chosen through the active record.
-- Assumes nothing.
use Rattle.std.proofs.Common.{◌≡◌, ℕ, zero, suc, ◌+◌, Bool, true, false, if◌then◌else◌, List, [], ◌∷◌, Option, Some, None, option_map, option_and_then, ◌⊎◌, inl, inr, subst, refl, ap, ◌∙◌}
use Rattle.std.specs.Prelude.{nat_lt}
use Rattle.std.specs.Option.{option_or}
use Rattle.otadata.specs.declared.records.Sequence.{Sequence}
use Rattle.otadata.specs.declared.records.Slot.{Slot}
use Rattle.otadata.specs.Record.{Reading, slot_of}
use Rattle.sectors.specs.declared.reading.SectorNumber.{SectorNumber}
use Rattle.sectors.specs.declared.reading.SectorNumber.TheVariants.{Zero, One}
use Rattle.sectors.specs.Sector.{other_than, usable_sequence, highest, active}
use Rattle.partitions.specs.declared.list.App.TheVariants.{Factory as FactoryApp, OtaSlot}
use Rattle.app_image.specs.declared.Facts.{Facts}
use Rattle.node.specs.declared.Node.{Node}
use Rattle.node.specs.Node.{passing}
use Rattle.boot_choice.specs.declared.Choice.{Choice}
use Rattle.boot_choice.specs.declared.Choice.TheVariants.{Recorded, Factory, Found}
use Rattle.boot_choice.specs.Choice.{slots_of, through_slot, through_reading, in_order, through_active, factory, is_barred, candidate, first_from, last_search, choice}

-- ---- options

-- P of the value, if there is one
abbrev pub Always : {A : Type 0} → Option A → (A → Type 0) → Type 0
Always {A} o P = (x : A) → o ≡ Some x → P x

same_some : {A : Type 0} {x y : A} → Some x ≡ Some y → x ≡ y
same_some e = cc

or_always : {A : Type 0} (a b : Option A) (P : A → Type 0) → Always a P → Always b P → Always (option_or a b) P
or_always None b P of_a of_b x is = of_b x is
or_always (Some y) b P of_a of_b x is = of_a x is

map_always : {A B : Type 0} (f : A → B) (o : Option A) (P : B → Type 0) → ((x : A) → o ≡ Some x → P (f x)) → Always (option_map f o) P
map_always f None P of_value y is = absurd cc
map_always f (Some x) P of_value y is = subst P (same_some is) (of_value x refl)

then_always : {A B : Type 0} (f : A → Option B) (o : Option A) (P : B → Type 0)
    → ((x : A) → o ≡ Some x → Always (f x) P) → Always (option_and_then f o) P
then_always f None P of_value y is = absurd cc
then_always f (Some x) P of_value y is = of_value x refl y is

if_always : {A : Type 0} (skip : Bool) (o : Option A) (P : A → Type 0) → Always o P → Always (if skip then None else o) P
if_always true o P of_o x is = absurd cc
if_always false o P of_o x is = of_o x is

-- ---- where a choice comes from

-- the reading of sector k
abbrev pub reading_at : Reading → Reading → SectorNumber → Reading
reading_at first second Zero = first
reading_at first second One = second

-- a usable record that names the slot, whose app passes
pub record Through (node : Node) (reading : Reading) (slot : Slot) (facts : Facts) : Type 0 where
  pub sequence : Sequence
  pub is_usable : usable_sequence reading ≡ Some sequence
  pub names_slot : slot ≡ slot_of (slots_of node) sequence
  pub passes : passing node (OtaSlot slot) ≡ Some facts

-- a choice is of an app that passes, and one through a record is of the slot that the usable record names
abbrev pub Sound : Node → Reading → Reading → Choice → Type 0
Sound node first second (Recorded k slot facts) = Through node (reading_at first second k) slot facts
Sound node first second (Factory facts) = passing node FactoryApp ≡ Some facts
Sound node first second (Found slot facts) = passing node (OtaSlot slot) ≡ Some facts

module _ (node : Node) (first second : Reading) where
  abbrev Sounds : Option Choice → Type 0
  Sounds o = Always o (Sound node first second)

  abbrev both : List Reading
  both = first ∷ second ∷ []

  reading_sound : (k : SectorNumber) → Sounds (through_reading node (k, reading_at first second k))
  unfolding through_reading
  reading_sound k =
      then_always (λ q. through_slot node k (slot_of (slots_of node) q)) (usable_sequence (reading_at first second k)) (Sound node first second)
      (λ q is.
      map_always (Recorded k (slot_of (slots_of node) q)) (passing node (OtaSlot (slot_of (slots_of node) q))) (Sound node first second)
      (λ facts passes. record { sequence = q; is_usable = is; names_slot = refl; passes = passes }))

  order_sound : (k : SectorNumber) → Sounds (in_order node first second k)
  order_sound Zero = or_always (through_reading node (Zero, first)) (through_reading node (One, second)) (Sound node first second) (reading_sound Zero) (reading_sound One)
  order_sound One = or_always (through_reading node (One, second)) (through_reading node (Zero, first)) (Sound node first second) (reading_sound One) (reading_sound Zero)

  active_sound : Sounds (through_active node both)
  unfolding through_active
  active_sound = then_always (in_order node first second) (active both) (Sound node first second) (λ k is. order_sound k)

  factory_sound : Sounds (factory node)
  unfolding factory
  factory_sound = map_always Factory (passing node FactoryApp) (Sound node first second) (λ facts passes. passes)

  candidate_sound : (slot : Slot) → Sounds (candidate node both slot)
  unfolding candidate
  candidate_sound slot =
      if_always (is_barred (slots_of node) both slot) (option_map (Found slot) (passing node (OtaSlot slot))) (Sound node first second)
      (map_always (Found slot) (passing node (OtaSlot slot)) (Sound node first second) (λ facts passes. passes))

  search_sound : (s k : ℕ) → Sounds (first_from node both s k)
  unfolding first_from
  search_sound s zero made is = absurd cc
  search_sound s (suc k) made is =
      or_always (candidate node both (record { 0 = s })) (first_from node both (s + 1) k) (Sound node first second)
      (candidate_sound (record { 0 = s })) (search_sound (s + 1) k) made is

  pub choice_sound : Sounds (choice node both)
  unfolding choice last_search
  choice_sound =
      or_always (through_active node both) _ (Sound node first second) active_sound
      (or_always (factory node) (first_from node both 0 (slots_of node)) (Sound node first second) factory_sound (search_sound 0 (slots_of node)))

-- ---- which record is active

-- where the other record is usable, there is an active one: the other, or the own one, which is usable then
abbrev Either : SectorNumber → SectorNumber → Option SectorNumber → Option Sequence → Type 0
Either own other found sequence = (found ≡ Some other) ⊎ ((found ≡ Some own) × ((q : Sequence) × (sequence ≡ Some q)))

by_second : (higher : Bool) (q : Sequence) → Either Zero One (Some (if higher then One else Zero)) (Some q)
by_second true q = inl refl
by_second false q = inr (refl, (q, refl))

by_first : (higher : Bool) (q : Sequence) → Either One Zero (Some (if higher then One else Zero)) (Some q)
by_first true q = inr (refl, (q, refl))
by_first false q = inl refl

beside_second : (o : Option Sequence) (u : Sequence) → Either Zero One (highest o (Some u)) o
beside_second None u = inl refl
beside_second (Some q) u = by_second (nat_lt q.0 u.0) q

beside_first : (o : Option Sequence) (u : Sequence) → Either One Zero (highest (Some u) o) o
beside_first None u = inl refl
beside_first (Some q) u = by_first (nat_lt u.0 q.0) q

module _ (first second : Reading) where
  pub active_beside : (p : SectorNumber) (u : Sequence) → usable_sequence (reading_at first second (other_than p)) ≡ Some u
      → Either p (other_than p) (active (first ∷ second ∷ [])) (usable_sequence (reading_at first second p))
  active_beside Zero u is = rw is (beside_second (usable_sequence first) u)
  active_beside One u is = rw is (beside_first (usable_sequence second) u)

-- ---- what is chosen through the active record

module _ (node : Node) (k : SectorNumber) (reading : Reading) (q : Sequence) (usable : usable_sequence reading ≡ Some q) where
  abbrev named : Slot
  named = slot_of (slots_of node) q

  through_yes : (facts : Facts) → passing node (OtaSlot named) ≡ Some facts → through_reading node (k, reading) ≡ Some (Recorded k named facts)
  unfolding through_reading
  through_yes facts passes = rw (usable, passes) refl

  through_no : passing node (OtaSlot named) ≡ None → through_reading node (k, reading) ≡ None
  unfolding through_reading
  through_no fails = rw (usable, fails) refl

first_of_two : {A : Type 0} (a b : Option A) (x : A) → a ≡ Some x → option_or a b ≡ Some x
first_of_two a b x is = rw is refl

second_of_two : {A : Type 0} (a b : Option A) (x : A) → a ≡ None → b ≡ Some x → option_or a b ≡ Some x
second_of_two a b x none is = rw none is

module _ (node : Node) (first second : Reading) where
  chosen : (made : Choice) → through_active node (first ∷ second ∷ []) ≡ Some made → choice node (first ∷ second ∷ []) ≡ Some made
  unfolding choice
  chosen made is = rw is refl

  by_order : (p : SectorNumber) (made : Choice) → active (first ∷ second ∷ []) ≡ Some p → in_order node first second p ≡ Some made
      → choice node (first ∷ second ∷ []) ≡ Some made
  unfolding through_active
  by_order p made is ordered = chosen made (ap (option_and_then (in_order node first second)) is ∙ ordered)

  own_first : (p : SectorNumber) (made : Choice) → through_reading node (p, reading_at first second p) ≡ Some made → in_order node first second p ≡ Some made
  own_first Zero made is = first_of_two (through_reading node (Zero, first)) (through_reading node (One, second)) made is
  own_first One made is = first_of_two (through_reading node (One, second)) (through_reading node (Zero, first)) made is

  other_next : (p : SectorNumber) (made : Choice) → through_reading node (p, reading_at first second p) ≡ None
      → through_reading node (other_than p, reading_at first second (other_than p)) ≡ Some made → in_order node first second p ≡ Some made
  other_next Zero made none is = second_of_two (through_reading node (Zero, first)) (through_reading node (One, second)) made none is
  other_next One made none is = second_of_two (through_reading node (One, second)) (through_reading node (Zero, first)) made none is

  -- the active record's app passes
  pub through_own : (p : SectorNumber) (q : Sequence) (facts : Facts)
      → active (first ∷ second ∷ []) ≡ Some p
      → usable_sequence (reading_at first second p) ≡ Some q
      → passing node (OtaSlot (slot_of (slots_of node) q)) ≡ Some facts
      → choice node (first ∷ second ∷ []) ≡ Some (Recorded p (slot_of (slots_of node) q) facts)
  through_own p q facts is usable passes =
      by_order p (Recorded p (slot_of (slots_of node) q) facts) is
      (own_first p (Recorded p (slot_of (slots_of node) q) facts) (through_yes node p (reading_at first second p) q usable facts passes))

  -- it doesn't, and that of the other usable record does
  pub through_other : (p : SectorNumber) (q u : Sequence) (facts : Facts)
      → active (first ∷ second ∷ []) ≡ Some p
      → usable_sequence (reading_at first second p) ≡ Some q
      → passing node (OtaSlot (slot_of (slots_of node) q)) ≡ None
      → usable_sequence (reading_at first second (other_than p)) ≡ Some u
      → passing node (OtaSlot (slot_of (slots_of node) u)) ≡ Some facts
      → choice node (first ∷ second ∷ []) ≡ Some (Recorded (other_than p) (slot_of (slots_of node) u) facts)
  through_other p q u facts is usable fails other_usable passes =
      by_order p (Recorded (other_than p) (slot_of (slots_of node) u) facts) is
      (other_next p (Recorded (other_than p) (slot_of (slots_of node) u) facts)
      (through_no node p (reading_at first second p) q usable fails)
      (through_yes node (other_than p) (reading_at first second (other_than p)) u other_usable facts passes))
