-- A list is right exactly where the rules hold of it, both ways.
use Rattle.std.proofs.Common.{◌≡◌, refl, ℕ, ◌≤◌, ◌<◌, zero, suc, true, ◌&&◌, ◌||◌, ◌==◌, nat_le, nat_lt, List, [], ◌∷◌, All, AllPairs, slice_index_or, arith}
use Rattle.std.specs.List.{range_with_len}
use Rattle.std.proofs.lemmas.Bool.{or_cases}
use Rattle.std.proofs.lemmas.Bool.Decides.{nat_tests}
use Rattle.std.proofs.lemmas.List.Sums.{AllPass-from_list_all, list_all-from_AllPass}
use Rattle.std.proofs.lemmas.List.FromFn.{length-range_with_len, get_or-range_with_len}
use Rattle.partitions.specs.declared.entry.Entry.{Entry}
use Rattle.partitions.specs.Entry.{factory_subtype, slot_subtype, keeps_rules, is_apart_from}
use Rattle.partitions.specs.PartitionList.{max_flash, entries_of, times_listed, slot_count, has_each_slot_once, all_keep_rules, is_apart_from_all, are_apart, keep_rules, is_right}
use Rattle.partitions.specs.RightList.{FactoryOrSlot, ShareNoByte, RightEntry, RightEntries, RightList, RightMeans}

-- ---- an entry

known_means : (n t : ℕ) → ((t == factory_subtype) || (nat_le (slot_subtype 0) t && nat_lt t (slot_subtype n))) ≡ true → FactoryOrSlot n t
known_means n t known = grind (arith, nat_tests, or_cases (t == factory_subtype) (nat_le (slot_subtype 0) t && nat_lt t (slot_subtype n)) known)

entry_means : (n capacity : ℕ) (e : Entry) → keeps_rules n capacity e ≡ true → RightEntry n capacity e
entry_means n capacity e keeps =
    record {
      subtype = known_means n e.subtype (grind (arith, nat_tests));
      offset = grind (arith, nat_tests);
      nonzero = grind (arith, nat_tests);
      size = grind (arith, nat_tests);
      ends = grind (arith, nat_tests);
    }

entry_from : (n capacity : ℕ) (e : Entry) → RightEntry n capacity e → keeps_rules n capacity e ≡ true
entry_from n capacity e right = grind (arith, nat_tests, right.subtype, right.offset, right.nonzero, right.size, right.ends)

-- ---- two entries

module _ (a b : Entry) where
  apart_means : is_apart_from a b ≡ true → ShareNoByte a b
  apart_means apart x in_a in_b = grind (arith, nat_tests, in_a.0, in_a.1, in_b.0, in_b.1)

  -- of entries that hold a byte, the later offset is in both where they overlap
  apart_from : 0 < a.size → 0 < b.size → ShareNoByte a b → is_apart_from a b ≡ true
  apart_from some_a some_b none = grind (arith, nat_tests, none a.offset, none b.offset)

-- ---- all entries

pairs_mean : (es : List Entry) → are_apart es ≡ true → AllPairs ShareNoByte es
unfolding are_apart is_apart_from_all
pairs_mean [] apart i j d before within = absurd (omega arith)
pairs_mean (e ∷ es) apart i zero d before within = absurd (omega arith)
pairs_mean (e ∷ es) apart zero (suc j) d before within =
    apart_means e (slice_index_or es j d) (AllPass-from_list_all (is_apart_from e) es (grind (arith, nat_tests)) j d (omega arith))
pairs_mean (e ∷ es) apart (suc i) (suc j) d before within = pairs_mean es (grind (arith, nat_tests)) i j d (omega arith) (omega arith)

pairs_from : (es : List Entry) → All (λ e. 0 < e.size) es → AllPairs ShareNoByte es → are_apart es ≡ true
unfolding are_apart is_apart_from_all
pairs_from [] some none = refl
pairs_from (e ∷ es) some none =
    let first =
    list_all-from_AllPass (is_apart_from e) es
    (λ k d l. apart_from e (slice_index_or es k d) (some 0 e (omega arith)) (some (suc k) d (omega arith)) (none 0 (suc k) d (omega arith) (omega arith))) in
    let rest = pairs_from es (λ k d l. some (suc k) d (omega arith)) (λ i j d l m. none (suc i) (suc j) d (omega arith) (omega arith)) in
    grind (arith, first, rest)

-- ---- the list

module _ (es : List Entry) (capacity : ℕ) where
  slots_mean : has_each_slot_once (slot_count es) es ≡ true → (s : ℕ) → s < slot_count es → times_listed (slot_subtype s) es ≡ 1
  unfolding has_each_slot_once
  slots_mean once s below =
      let at = AllPass-from_list_all (λ k. times_listed (slot_subtype k) es == 1) (range_with_len 0 (slot_count es)) once s 0 (omega (arith, length-range_with_len 0 (slot_count es))) in
      grind (arith, nat_tests, at, get_or-range_with_len 0 (slot_count es) s 0 below)

  slots_from : ((s : ℕ) → s < slot_count es → times_listed (slot_subtype s) es ≡ 1) → has_each_slot_once (slot_count es) es ≡ true
  unfolding has_each_slot_once
  slots_from once =
      list_all-from_AllPass (λ k. times_listed (slot_subtype k) es == 1) (range_with_len 0 (slot_count es))
      (λ s d l.
      let below : s < slot_count es = omega (arith, length-range_with_len 0 (slot_count es)) in
      grind (arith, nat_tests, once s below, get_or-range_with_len 0 (slot_count es) s d below))

  entries_mean : keep_rules es capacity ≡ true → RightEntries es capacity
  unfolding keep_rules all_keep_rules
  entries_mean keeps =
      record {
        factory = grind (arith, nat_tests);
        least = grind (arith, nat_tests);
        most = grind (arith, nat_tests);
        slots = slots_mean (grind (arith, nat_tests));
        each = λ k d l. entry_means (slot_count es) capacity (slice_index_or es k d) (AllPass-from_list_all (keeps_rules (slot_count es) capacity) es (grind (arith, nat_tests)) k d l);
        separate = pairs_mean es (grind (arith, nat_tests));
      }

  entries_from : RightEntries es capacity → capacity ≤ max_flash → keep_rules es capacity ≡ true
  unfolding keep_rules all_keep_rules
  entries_from right fits =
      let each = list_all-from_AllPass (keeps_rules (slot_count es) capacity) es (λ k d l. entry_from (slot_count es) capacity (slice_index_or es k d) (right.each k d l)) in
      let apart = pairs_from es (λ k d l. (right.each k d l).nonzero) right.separate in
      grind (arith, nat_tests, right.factory, right.least, right.most, slots_from right.slots, each, apart)

pub right_is : (words : List ℕ) (capacity : ℕ) → is_right words capacity ≡ true → RightList words capacity
unfolding is_right keep_rules
right_is words capacity right =
    record {
      triples = grind (arith, nat_tests);
      entries = entries_mean (entries_of words) capacity (grind (arith, nat_tests));
      flash = grind (arith, nat_tests);
    }

is_then_right : (words : List ℕ) (capacity : ℕ) → RightList words capacity → is_right words capacity ≡ true
unfolding is_right
is_then_right words capacity right = grind (arith, nat_tests, right.triples, entries_from (entries_of words) capacity right.entries right.flash)

pub right_means : RightMeans
unfolding RightMeans
right_means words capacity = (right_is words capacity, is_then_right words capacity)
