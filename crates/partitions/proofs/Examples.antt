-- The definitions evaluated on short lists: some that keep the rules, and for each rule one that breaks it.
use Rattle.std.proofs.Common.{◌≡◌, refl, ℕ, suc, zero, ◌+◌, ◌*◌, true, List, [], ◌∷◌, ◌++◌, map, replicate}
use Rattle.std.specs.List.{list_all, range_with_len}
use Rattle.partitions.specs.PartitionList.{times_listed, slot_count, has_each_slot_once, all_keep_rules, is_apart_from_all, are_apart, keep_rules, is_right, has_factory, check}
use Rattle.partitions.specs.Answer.{answer_of}

-- an entry's three words
abbrev entry : ℕ → ℕ → ℕ → List ℕ
entry subtype offset size = subtype ∷ offset ∷ size ∷ []

-- n slots of 65,536 bytes from 65,536 on, one after the other
abbrev slots_in_row : ℕ → List ℕ
slots_in_row zero = []
slots_in_row (suc n) = slots_in_row n ++ entry (16 + n) (65536 * (n + 1)) 65536

-- ---- right

two_slots : answer_of (check (slots_in_row 2) 196608) ≡ record { number = 0; values = 2 ∷ 0 ∷ [] }
unfolding check is_right keep_rules times_listed slot_count has_each_slot_once all_keep_rules is_apart_from_all are_apart has_factory
two_slots = refl

-- factory last, the slots in another order, no room between the three, and the last ends with the flash
factory_last :
    answer_of (check (entry 17 65536 65536 ++ entry 16 131072 131072 ++ entry 0 262144 4096) 266240) ≡ record { number = 0; values = 2 ∷ 1 ∷ [] }
unfolding check is_right keep_rules times_listed slot_count has_each_slot_once all_keep_rules is_apart_from_all are_apart has_factory
factory_last = refl

-- every n from 2 to 16
each_number_of_slots : list_all (λ n. is_right (slots_in_row n) 16777216) (range_with_len 2 15) ≡ true
unfolding is_right keep_rules times_listed slot_count has_each_slot_once all_keep_rules is_apart_from_all are_apart
each_number_of_slots = refl

nine_slots : answer_of (check (slots_in_row 9) 655360) ≡ record { number = 0; values = 9 ∷ 0 ∷ [] }
unfolding check is_right keep_rules times_listed slot_count has_each_slot_once all_keep_rules is_apart_from_all are_apart has_factory
nine_slots = refl

sixteen_slots : answer_of (check (slots_in_row 16 ++ entry 0 0 4096) 16777216) ≡ record { number = 0; values = 16 ∷ 1 ∷ [] }
unfolding check is_right keep_rules times_listed slot_count has_each_slot_once all_keep_rules is_apart_from_all are_apart has_factory
sixteen_slots = refl

-- ---- refused, in the largest flash

refused_lists : List (List ℕ)
refused_lists =
    -- no slot, one slot, seventeen slots; sixteen, of which the last has the subtype of a seventeenth
    []
    ∷ (slots_in_row 1 ++ entry 0 0 65536)
    ∷ slots_in_row 17
    ∷ (slots_in_row 15 ++ entry 32 1048576 65536)
    -- a broken triple; factory twice; a slot twice, or left out; another subtype
    ∷ (slots_in_row 2 ++ 0 ∷ [])
    ∷ (entry 0 524288 65536 ++ slots_in_row 2 ++ entry 0 262144 65536)
    ∷ (slots_in_row 2 ++ entry 17 524288 65536)
    ∷ (slots_in_row 2 ++ entry 19 524288 65536)
    ∷ (slots_in_row 2 ++ entry 1 524288 65536)
    -- half a block as offset, half a sector as size, and size 0
    ∷ (slots_in_row 1 ++ entry 17 163840 65536)
    ∷ (slots_in_row 1 ++ entry 17 131072 2048)
    ∷ (slots_in_row 1 ++ entry 17 131072 0)
    -- a sector past the flash; an end of 2 ^ 32, which does not wrap; an overlap of one sector
    ∷ (slots_in_row 1 ++ entry 17 16711680 69632)
    ∷ (slots_in_row 1 ++ entry 17 4294901760 65536)
    ∷ (entry 16 65536 69632 ++ entry 17 131072 65536)
    ∷ []

each_refused : map (λ (list : List ℕ). answer_of (check list 16777216)) refused_lists ≡ replicate 15 (record { number = 1; values = [] })
unfolding refused_lists check is_right keep_rules times_listed slot_count has_each_slot_once all_keep_rules is_apart_from_all are_apart has_factory
each_refused = refl

flash_too_large : answer_of (check (slots_in_row 2) 16777217) ≡ record { number = 1; values = [] }
unfolding check is_right keep_rules times_listed slot_count has_each_slot_once all_keep_rules is_apart_from_all are_apart has_factory
flash_too_large = refl
