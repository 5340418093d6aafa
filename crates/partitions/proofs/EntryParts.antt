-- The law of the parts: each subtype of a right list is listed once, so an app's part is that of the entry of its subtype.
use Rattle.std.proofs.Common.{◌≡◌, subst, ℕ, ◌-◌, ◌≤◌, zero, suc, Bool, true, false, cond, ◌==◌, List, [], ◌∷◌, Some, Contains, All, inl, inr, find, count_by, length, refl, Option, None, option_map, unwrap_or, if◌then◌else◌, arith}
use Rattle.std.proofs.lemmas.Bool.Decides.{nat_tests}
use Rattle.std.proofs.lemmas.Grind.{common_steps}
use Rattle.std.proofs.lemmas.List.Sums.{sum_by-cons}
use Rattle.sectors.specs.Part.{Part}
use Rattle.partitions.specs.declared.entry.Entry.{Entry}
use Rattle.partitions.specs.declared.list.App.{App}
use Rattle.partitions.specs.Entry.{slot_subtype, end_of, entry_bytes, entry_part}
use Rattle.partitions.specs.PartitionList.{max_flash, entries_of, times_listed, slot_count, is_right, list_of, subtype_of, entry_with, image_of, empty_part, part_or_empty, app_part}
use Rattle.partitions.specs.RightList.{FactoryOrSlot, RightEntry, RightEntries}
use Rattle.partitions.specs.EntryParts.{app_of, EntryParts, ImageIsPart}
use Rattle.partitions.proofs.ListRules.{bytes_fit}
use Rattle.partitions.proofs.RightMeans.{right_is}

-- ---- a subtype of the list

-- its app has it
app_back : (n t : ℕ) → FactoryOrSlot n t → subtype_of (app_of t) ≡ t
app_back n t (inl factory) = grind (arith, nat_tests, factory)
app_back n t (inr slot) = grind (arith, nat_tests, slot.0, slot.1)

-- it is listed at most once
listed_once : (entries : List Entry) (capacity t : ℕ) → RightEntries entries capacity → FactoryOrSlot (slot_count entries) t → times_listed t entries ≤ 1
listed_once entries capacity t right (inl factory) = grind (arith, right.factory, factory)
listed_once entries capacity t right (inr slot) =
    let once = right.slots (t - slot_subtype 0) (omega (arith, slot.0, slot.1)) in
    let same : slot_subtype (t - slot_subtype 0) ≡ t = omega (arith, slot.0) in
    grind (arith, once, same)

-- ---- the entry of a subtype that is listed once

-- one that passes counts
counted : {A : Type 0} (p : A → Bool) (xs : List A) (x : A) → Contains xs x → p x ≡ true → 1 ≤ count_by p xs
counted p [] x (k, within, at) passes = absurd (omega arith)
counted p (y ∷ ys) x (zero, within, at) passes = grind (arith, at, sum_by-cons (λ z. cond (p z) 1 0) y ys)
counted p (y ∷ ys) x (suc k, within, at) passes =
    grind (arith, counted p ys x (k, omega arith, at) passes, sum_by-cons (λ z. cond (p z) 1 0) y ys)

-- the only one that passes is found
found_alone : {A : Type 0} (p : A → Bool) (xs : List A) (x : A) → Contains xs x → p x ≡ true → count_by p xs ≤ 1 → find p xs ≡ Some x
found_alone p [] x (k, within, at) passes once = absurd (omega arith)
found_alone p (y ∷ ys) x (zero, within, at) passes once = grind (arith, at)
found_alone p (y ∷ ys) x (suc k, within, at) passes once =
    let here : Contains ys x = (k, omega arith, at) in
    let rest = counted p ys x here passes in
    let step = sum_by-cons (λ z. cond (p z) 1 0) y ys in
    let other : p y ≡ false = grind (arith, rest, step) in
    let fewer : count_by p ys ≤ 1 = grind (arith, step) in
    grind (arith, other, found_alone p ys x here passes fewer)

-- ---- its part

part_length : (e : Entry) (flash : Part) → end_of e ≤ length flash.content → length (entry_part e flash).content ≡ e.size
part_length e flash ends = grind (arith, common_steps)

contained : (P : Entry → Type 0) (es : List Entry) (e : Entry) → All P es → Contains es e → P e
contained P es e all (k, within, at) = subst P at (all k e within)

pub entry_parts : EntryParts
unfolding EntryParts app_part image_of entry_with times_listed
entry_parts words flash e right listed =
    let facts = right_is words (length flash.content) right in
    let of_entry = contained (RightEntry (slot_count (entries_of words)) (length flash.content)) (entries_of words) e facts.entries.each listed in
    let back = app_back (slot_count (entries_of words)) e.subtype of_entry.subtype in
    let once = listed_once (entries_of words) (length flash.content) e.subtype facts.entries of_entry.subtype in
    let found = found_alone (λ x. x.subtype == e.subtype) (entries_of words) e listed (grind (arith, nat_tests)) once in
    let same : app_part words flash (app_of e.subtype) ≡ entry_part e flash = simp (right, back, found) in
    record { same_subtype = back; same_part = same; whole = rw same (part_length e flash of_entry.ends); same_image = simp (back, found) }

-- no part is longer than the longest flash
pub part_fits : (list : List ℕ) (flash : Part) (app : App) → length (app_part list flash app).content ≤ max_flash
unfolding app_part is_right
part_fits list flash app = by (is_right list (length flash.content)) (entry_with (subtype_of app) (entries_of list)) refl
  where
    by : (right : Bool) (found : Option Entry) → is_right list (length flash.content) ≡ right
        → length (if right then part_or_empty found flash else empty_part flash).content ≤ max_flash
    by true (Some e) right = bytes_fit (entries_of list) flash.content e (grind (arith, nat_tests))
    by true None right = omega arith
    by false found right = omega arith

-- an image is the bytes of the part
pub image_is_part : ImageIsPart
unfolding ImageIsPart list_of image_of app_part
image_is_part words flash list app accepted = by (is_right words (length flash.content)) refl
  where
    of_entry : (found : Option Entry) → unwrap_or (option_map (λ e. entry_bytes e flash.content) found) [] ≡ (part_or_empty found flash).content
    of_entry (Some e) = refl
    of_entry None = refl

    by : (right : Bool) → is_right words (length flash.content) ≡ right → unwrap_or (image_of list app) [] ≡ (app_part words flash app).content
    by true right =
        let same : record { entries = entries_of words; flash = flash.content } ≡ list = grind (arith, accepted, right) in
        rw (← same, right) (of_entry (entry_with (subtype_of app) (entries_of words)))
    by false right = grind (arith, accepted, right)
