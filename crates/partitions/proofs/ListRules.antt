-- What the rules give of an accepted list.
use Rattle.std.proofs.Common.{◌≡◌, refl, ℕ, ◌+◌, ◌*◌, ◌/◌, ◌≤◌, ◌<◌, Bool, true, false, not, cond, List, [], ◌∷◌, Some, find, length, map, count_by, drop, zero, suc, Ok, arith}
use Rattle.std.specs.List.{list_all}
use Rattle.std.specs.Simd.{first_chunks}
use Rattle.std.proofs.lemmas.Bool.Decides.{nat_tests}
use Rattle.std.proofs.lemmas.Grind.{common_steps}
use Rattle.std.proofs.lemmas.List.Sums.{sum_by-cons}
use Rattle.partitions.specs.declared.entry.Entry.{Entry}
use Rattle.partitions.specs.Entry.{entry_of, end_of, entry_bytes, is_factory, keeps_rules}
use Rattle.partitions.specs.PartitionList.{max_slots, max_flash, entries_of, keep_rules, slot_count, times_listed, entry_with, all_keep_rules, is_right, Partitions, list_of}

-- n fits a u32
pub slots_fit : (entries : List Entry) (capacity : ℕ) → keep_rules entries capacity ≡ true → slot_count entries ≤ max_slots
unfolding keep_rules
slots_fit entries capacity keeps = grind (arith, nat_tests)

-- and there are two
pub two_slots : (entries : List Entry) (capacity : ℕ) → keep_rules entries capacity ≡ true → 2 ≤ slot_count entries
unfolding keep_rules
two_slots entries capacity keeps = grind (arith, nat_tests)

-- what each element passes, the found one passes
found_passes : {A : Type 0} (p q : A → Bool) (xs : List A) (x : A) → find p xs ≡ Some x → list_all q xs ≡ true → q x ≡ true
found_passes p q [] x found all = cc
found_passes p q (y ∷ ys) x found all = grind (arith, found_passes p q ys x)

-- an entry of an accepted list ends within the flash
pub entry_ends : (entries : List Entry) (capacity subtype : ℕ) (e : Entry)
    → entry_with subtype entries ≡ Some e → keep_rules entries capacity ≡ true → end_of e ≤ capacity
unfolding keep_rules entry_with all_keep_rules
entry_ends entries capacity subtype e found keeps =
    let right = found_passes _ (keeps_rules (slot_count entries) capacity) entries e found (grind (arith, nat_tests)) in
    grind (arith, nat_tests)

-- no entry of an accepted list has more bytes than the longest flash
pub bytes_fit : (entries : List Entry) (flash : List ℕ) (e : Entry) → keep_rules entries (length flash) ≡ true → length (entry_bytes e flash) ≤ max_flash
unfolding keep_rules
bytes_fit entries flash e keeps =
    let fits : length flash ≤ max_flash = grind (arith, nat_tests) in
    grind (arith, common_steps, fits)

-- the same of the words
pub part_fits : (words flash : List ℕ) (list : Partitions) (e : Entry) → list_of words flash ≡ Ok list → length (entry_bytes e flash) ≤ max_flash
unfolding list_of is_right
part_fits words flash list e accepted = by (is_right words (length flash)) refl
  where
    by : (right : Bool) → is_right words (length flash) ≡ right → length (entry_bytes e flash) ≤ max_flash
    by true right = bytes_fit (entries_of words) flash e (grind (arith, nat_tests))
    by false right = grind (arith, accepted, right)

-- ---- a list that is too long

-- each element passes a test or its negation
all_counted : {A : Type 0} (p : A → Bool) (xs : List A) → count_by p xs + count_by (λ x. not (p x)) xs ≡ length xs
all_counted p [] = refl
all_counted p (x ∷ xs) =
    grind (arith, all_counted p xs, sum_by-cons (λ y. cond (p y) 1 0) x xs, sum_by-cons (λ y. cond (not (p y)) 1 0) x xs)

length_chunks : (n k : ℕ) (xs : List ℕ) → length (map entry_of (first_chunks n k xs)) ≡ k
length_chunks n zero xs = refl
length_chunks n (suc k) xs = grind (arith, length_chunks n k (drop n xs))

-- a list of more words has too many slots, or breaks another rule
pub too_long : (words : List ℕ) (capacity : ℕ) → 3 * (max_slots + 1) < length words → is_right words capacity ≡ false
unfolding is_right keep_rules slot_count times_listed
too_long words capacity long =
    let entries = entries_of words in
    grind (arith, nat_tests, all_counted is_factory entries, length_chunks 3 (length words / 3) words)
