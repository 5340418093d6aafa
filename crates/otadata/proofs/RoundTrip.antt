-- A record made and read, and read and made.
use Rattle.std.proofs.Common.{◌≡◌, ℕ, ◌+◌, ◌^◌, ◌<◌, ◌≤◌, ◌==◌, Bool, true, false, ◌&&◌, if◌then◌else◌, is_some, Option, Result, List, All, [], ◌∷◌, ◌++◌, Ok, Err, Some, None, length, take, drop, get_or, slice_range, refl, sym, ap, ◌∙◌, append_assoc, arith, eq-eqb, eqb-true, take-add}
use Rattle.std.specs.Int.{w32, to_le_bytes, from_le_bytes}
use Rattle.std.proofs.lemmas.List.{take_at, drop_at, take_all, length-append}
use Rattle.std.proofs.lemmas.Nat.{le_bytes_4, from_le_bytes-to_le_bytes_4}
use Rattle.std.proofs.lemmas.Bool.Decides.{nat_tests}
use Rattle.std.proofs.lemmas.Grind.{common_steps}
use Rattle.otadata.specs.declared.records.Record.{Record}
use Rattle.otadata.specs.declared.records.Sequence.{Sequence}
use Rattle.otadata.specs.declared.records.NotGood.{NotGood}
use Rattle.otadata.specs.declared.states.State.{State}
use Rattle.otadata.specs.declared.states.State.TheVariants.{New, Pending, Valid, Invalid, Aborted, Undefined}
use Rattle.otadata.specs.CheckWord.{check_word}
use Rattle.otadata.specs.State.{word_of, state_of}
use Rattle.otadata.specs.Record.{sequence_field, label_field, state_field, check_field, is_sequence, is_blank, is_good, read, fields, bytes_of, with_state, made}
use Rattle.otadata.specs.RoundTrip.{SameFields, MadeThenRead, ReadThenMade}

state_of-word_of : (state : State) → state_of (word_of state) ≡ Some state
state_of-word_of New = refl
state_of-word_of Pending = refl
state_of-word_of Valid = refl
state_of-word_of Invalid = refl
state_of-word_of Aborted = refl
state_of-word_of Undefined = refl

-- the parts of four lists end to end
module _ (a b c d : List ℕ) (size_a : length a ≡ 4) (size_b : length b ≡ 20) (size_c : length c ≡ 4) (size_d : length d ≡ 4) where
  ends_b : length (a ++ b) ≡ 24
  ends_b = omega (arith, length-append a b)

  ends_c : length (a ++ b ++ c) ≡ 28
  ends_c = omega (arith, length-append (a ++ b) c, ends_b)

  ends_d : length (a ++ b ++ c ++ d) ≡ 32
  ends_d = omega (arith, length-append (a ++ b ++ c) d, ends_c)

  part_a : slice_range (a ++ b ++ c ++ d) 0 4 ≡ a
  part_a = rw (append_assoc (a ++ b) c d, append_assoc a b (c ++ d)) (take_at a _ 4 size_a)

  part_b : slice_range (a ++ b ++ c ++ d) 4 24 ≡ b
  part_b = rw (append_assoc (a ++ b) c d, append_assoc a b (c ++ d), drop_at a (b ++ (c ++ d)) 4 size_a) (take_at b _ 20 size_b)

  part_c : slice_range (a ++ b ++ c ++ d) 24 28 ≡ c
  part_c = rw (append_assoc (a ++ b) c d, drop_at (a ++ b) (c ++ d) 24 ends_b) (take_at c _ 4 size_c)

  part_d : slice_range (a ++ b ++ c ++ d) 28 32 ≡ d
  part_d = rw (drop_at (a ++ b ++ c) d 28 ends_c) (take_all 4 d (omega arith))

check_word-fits : (q : ℕ) → check_word q < 2 ^ 32
unfolding check_word
check_word-fits q = omega arith

-- the fields of the bytes of the fields
module _ (q : ℕ) (label : List ℕ) (word : ℕ) (fits_q : q < 2 ^ 32) (size : length label ≡ 20) (fits_word : word < 2 ^ 32) where
  fields-length : length (fields q label word) ≡ 32
  unfolding fields
  fields-length = ends_d (to_le_bytes w32 q) label (to_le_bytes w32 word) (to_le_bytes w32 (check_word q)) refl size refl refl

  sequence_is : sequence_field (fields q label word) ≡ q
  unfolding fields
  sequence_is = ap (from_le_bytes w32) (part_a (to_le_bytes w32 q) label (to_le_bytes w32 word) (to_le_bytes w32 (check_word q)) refl size refl refl) ∙ from_le_bytes-to_le_bytes_4 q fits_q

  label_is : label_field (fields q label word) ≡ label
  unfolding fields
  label_is = part_b (to_le_bytes w32 q) label (to_le_bytes w32 word) (to_le_bytes w32 (check_word q)) refl size refl refl

  word_is : state_field (fields q label word) ≡ word
  unfolding fields
  word_is = ap (from_le_bytes w32) (part_c (to_le_bytes w32 q) label (to_le_bytes w32 word) (to_le_bytes w32 (check_word q)) refl size refl refl) ∙ from_le_bytes-to_le_bytes_4 word fits_word

  check_is : check_field (fields q label word) ≡ check_word q
  unfolding fields
  check_is = ap (from_le_bytes w32) (part_d (to_le_bytes w32 q) label (to_le_bytes w32 word) (to_le_bytes w32 (check_word q)) refl size refl refl) ∙ from_le_bytes-to_le_bytes_4 (check_word q) (check_word-fits q)

-- a sequence in range is not the erased one
pub not_blank : (bytes : List ℕ) → length bytes ≡ 32 → is_sequence (sequence_field bytes) ≡ true → is_blank bytes ≡ false
not_blank [] size good = absurd (omega arith)
not_blank (a ∷ []) size good = absurd (omega arith)
not_blank (a ∷ b ∷ []) size good = absurd (omega arith)
not_blank (a ∷ b ∷ c ∷ []) size good = absurd (omega arith)
not_blank (a ∷ b ∷ c ∷ d ∷ rest) size good = grind (arith, nat_tests)

-- what a good record reads as
pub read-good : (bytes : List ℕ) (state : State)
    → length bytes ≡ 32
    → is_sequence (sequence_field bytes) ≡ true
    → check_field bytes ≡ check_word (sequence_field bytes)
    → state_of (state_field bytes) ≡ Some state
    → read bytes ≡ Ok (record { sequence = record { 0 = sequence_field bytes }; label = label_field bytes; state = state })
unfolding read
read-good bytes state size sequence check of_word =
    simp (size, not_blank bytes size sequence, sequence, eq-eqb _ _ check, of_word)

word_of-lt : (state : State) → word_of state < 2 ^ 32
word_of-lt New = omega arith
word_of-lt Pending = omega arith
word_of-lt Valid = omega arith
word_of-lt Invalid = omega arith
word_of-lt Aborted = omega arith
word_of-lt Undefined = omega arith

below_last : (q : ℕ) → is_sequence q ≡ true → q < 2 ^ 32
below_last q good = grind (arith, nat_tests)

-- fields that are in range are read back
pub read-fields : (q : ℕ) (label : List ℕ) (state : State) → length label ≡ 20 → is_sequence q ≡ true
    → read (fields q label (word_of state)) ≡ Ok (record { sequence = record { 0 = q }; label = label; state = state })
read-fields q label state size good =
    let word = word_of state in
    let fits = below_last q good in
    let same = sequence_is q label word fits size (word_of-lt state) in
    read-good (fields q label word) state (fields-length q label word fits size (word_of-lt state)) (rw same good)
    (check_is q label word fits size (word_of-lt state) ∙ ap check_word (sym same))
    (ap state_of (word_is q label word fits size (word_of-lt state)) ∙ state_of-word_of state)
    ∙ simp (same, label_is q label word fits size (word_of-lt state))

-- a record made is read back
pub read_bytes_of : (r : Record) → length r.label ≡ 20 → is_sequence r.sequence.0 ≡ true → read (bytes_of r) ≡ Ok r
read_bytes_of r size good = read-fields r.sequence.0 r.label r.state size good

-- the facts of a good record
pub record Good (bytes : List ℕ) (state : State) : Type 0 where
  pub size : length bytes ≡ 32
  pub sequence : is_sequence (sequence_field bytes) ≡ true
  pub check : check_field bytes ≡ check_word (sequence_field bytes)
  pub of_word : state_of (state_field bytes) ≡ Some state

pub with_state-ok : (bytes : List ℕ) (state : Option State) (r : Record) → with_state bytes state ≡ Ok r
    → (state ≡ Some r.state) × (r.sequence.0 ≡ sequence_field bytes) × (r.label ≡ label_field bytes)
with_state-ok bytes None r is_ok = cc
with_state-ok bytes (Some state) r is_ok =
    let e : record { sequence = record { 0 = sequence_field bytes }; label = label_field bytes; state = state } ≡ r = cc in
    (ap (λ (x : Record). Some x.state) e, sym (ap (λ (x : Record). x.sequence.0) e), sym (ap (λ (x : Record). x.label) e))

-- the tests that bytes pass to be read as a record
pub passed : (bytes : List ℕ) (r : Record) → read bytes ≡ Ok r
    → ((length bytes == 32) ≡ true)
    × (is_sequence (sequence_field bytes) ≡ true)
    × ((check_field bytes == check_word (sequence_field bytes)) ≡ true)
    × (with_state bytes (state_of (state_field bytes)) ≡ Ok r)
unfolding read
passed bytes r is_ok = grind (arith, nat_tests)

-- four parts of 32 bytes, end to end
parts : (bytes : List ℕ) → length bytes ≡ 32
    → slice_range bytes 0 4 ++ slice_range bytes 4 24 ++ slice_range bytes 24 28 ++ slice_range bytes 28 32 ≡ bytes
parts bytes size =
    rw (← take-add 4 20 bytes, ← take-add 24 4 bytes, ← take-add 28 4 bytes) (take_all 32 bytes (omega arith))

-- a part of bytes has bytes
bytes_in : (bytes : List ℕ) (from n : ℕ) → ((i : ℕ) → get_or bytes i 0 < 256) → (i : ℕ) → get_or (take n (drop from bytes)) i 0 < 256
bytes_in bytes from n are_bytes i = grind (arith, common_steps, are_bytes (from + i))

-- the word of four of the bytes gives them back
word_back : (bytes : List ℕ) (from : ℕ) → ((i : ℕ) → get_or bytes i 0 < 256) → from + 4 ≤ length bytes
    → to_le_bytes w32 (from_le_bytes w32 (take 4 (drop from bytes))) ≡ take 4 (drop from bytes)
word_back bytes from are_bytes within =
    le_bytes_4 (take 4 (drop from bytes)) (from_le_bytes w32 (take 4 (drop from bytes))) (grind (arith, common_steps)) (bytes_in bytes from 4 are_bytes) refl

pub word_of-state_of : (word : ℕ) (state : State) → state_of word ≡ Some state → word_of state ≡ word
word_of-state_of word state is = grind (arith, nat_tests)

joined : {a a' b b' c c' d d' : List ℕ} → a ≡ a' → b ≡ b' → c ≡ c' → d ≡ d' → a ++ b ++ c ++ d ≡ a' ++ b' ++ c' ++ d'
joined same_a same_b same_c same_d = cc

-- a good record, made again, is the same bytes
pub bytes_of_read : (bytes : List ℕ) (r : Record) → ((i : ℕ) → get_or bytes i 0 < 256) → read bytes ≡ Ok r → bytes_of r ≡ bytes
unfolding fields
bytes_of_read bytes r are_bytes is_ok =
    let tests = passed bytes r is_ok in
    let found = with_state-ok bytes (state_of (state_field bytes)) r tests.3 in
    let size = eqb-true _ 32 tests.0 in
    let check = eqb-true (check_field bytes) (check_word (sequence_field bytes)) tests.2 in
    joined
    (ap (to_le_bytes w32) found.1 ∙ word_back bytes 0 are_bytes (omega arith))
    found.2
    (ap (to_le_bytes w32) (word_of-state_of (state_field bytes) r.state found.0) ∙ word_back bytes 24 are_bytes (omega arith))
    (ap (λ q. to_le_bytes w32 (check_word q)) found.1 ∙ ap (to_le_bytes w32) (sym check) ∙ word_back bytes 28 are_bytes (omega arith))
    ∙ parts bytes size

and_true : (b : Bool) → (b && true) ≡ b
and_true true = refl
and_true false = refl

-- the bytes of the fields are good exactly where the sequence is in range and the word is a state's
pub is_good_fields : (q : ℕ) (label : List ℕ) (word : ℕ) → q < 2 ^ 32 → length label ≡ 20 → word < 2 ^ 32
    → is_good (fields q label word) ≡ (is_sequence q && is_some (state_of word))
unfolding is_good
is_good_fields q label word fits size fits_word =
    simp (fields-length q label word fits size fits_word, sequence_is q label word fits size fits_word, check_is q label word fits size fits_word, word_is q label word fits size fits_word, eq-eqb (check_word q) (check_word q) refl)
    (ap (λ b. b && is_some (state_of word)) (and_true (is_sequence q)))

-- the sequence of a record that was read is in range
pub is_sequence_read : (bytes : List ℕ) (r : Record) → read bytes ≡ Ok r → is_sequence r.sequence.0 ≡ true
is_sequence_read bytes r is_ok =
    let tests = passed bytes r is_ok in
    ap is_sequence (with_state-ok bytes (state_of (state_field bytes)) r tests.3).1 ∙ tests.1

-- ---- the laws

-- what is made are the fields' bytes, and good
made-ok : (good : Bool) (bytes found : List ℕ) → if◌then◌else◌ {A = Result (List ℕ) NotGood} good (Ok bytes) (Err (record {})) ≡ Ok found → (good ≡ true) × (bytes ≡ found)
made-ok true bytes found is = (refl, cc)
made-ok false bytes found is = cc

same_fields : (sequence : Sequence) (label : List ℕ) (word : ℕ) (state : Option State)
    → length label ≡ 20 → is_sequence sequence.0 ≡ true → state_of word ≡ state → is_some state ≡ true
    → SameFields sequence label word (read (fields sequence.0 label word))
same_fields sequence label word None size good is some = cc
same_fields sequence label word (Some state) size good is some =
    let back = word_of-state_of word state is in
    record {
      state = state;
      of_word = back;
      same = ap (λ w. read (fields sequence.0 label w)) (sym back) ∙ read-fields sequence.0 label state size good;
    }

both : (a b : Bool) → (a && b) ≡ true → (a ≡ true) × (b ≡ true)
both true true e = (refl, refl)
both true false e = cc
both false b e = cc

pub made_then_read : MadeThenRead
unfolding MadeThenRead made
made_then_read sequence label word bytes fits size fits_word is =
    let found = made-ok (is_good (fields sequence.0 label word)) (fields sequence.0 label word) bytes is in
    let tests = both (is_sequence sequence.0) (is_some (state_of word)) (sym (is_good_fields sequence.0 label word fits size fits_word) ∙ found.0) in
    rw (← found.1) (same_fields sequence label word (state_of word) size tests.0 refl tests.1)

good_bytes : (bytes : List ℕ) (r : Record) → read bytes ≡ Ok r → is_good bytes ≡ true
unfolding is_good
good_bytes bytes r is =
    let tests = passed bytes r is in
    simp (tests.0, tests.1, tests.2, (with_state-ok bytes (state_of (state_field bytes)) r tests.3).0)

byte_below : (bytes : List ℕ) → All (λ byte. byte < 256) bytes → (i : ℕ) → get_or bytes i 0 < 256
byte_below bytes are_bytes i = grind (arith, common_steps, are_bytes i 0)

pub read_then_made : ReadThenMade
unfolding ReadThenMade made
read_then_made bytes r are_bytes is =
    simp (bytes_of_read bytes r (byte_below bytes are_bytes) is, good_bytes bytes r is)
