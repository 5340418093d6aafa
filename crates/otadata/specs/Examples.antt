-- Worked examples of the definitions.
use Rattle.std.specs.Prelude.{◌≡◌, true, [], ◌∷◌, ◌++◌, replicate, Ok, Err, is_ok}
use Rattle.otadata.specs.declared.records.Fault.TheVariants.{WrongSize, Blank, BadSequence, BadCheckWord, BadState}
use Rattle.otadata.specs.CheckWord.{check_word}
use Rattle.otadata.specs.Record.{fields, read, made}
use Rattle.otadata.specs.Answer.{number_of_not_good}
use Rattle.otadata.specs.Number.{reply_number}

pub record Examples : Type 0 where
  -- the check words of the sequences 1 and 2
  pub check_word_of_1 : check_word 1 ≡ 0x4743989A
  pub check_word_of_2 : check_word 2 ≡ 0x55F63774
  -- the record of sequence 1, label 20 bytes 0xFF, state undefined; no good record has the sequence 0, and its fields are refused with 17
  pub first_record :
      made (record { 0 = 1 }) (replicate 20 0xFF) 0xFFFFFFFF
      ≡ Ok (0x01 ∷ 0x00 ∷ 0x00 ∷ 0x00 ∷ [] ++ replicate 24 0xFF ++ 0x9A ∷ 0x98 ∷ 0x43 ∷ 0x47 ∷ [])
  pub refused_record :
      let refused = made (record { 0 = 0 }) (replicate 20 0xFF) 0xFFFFFFFF in
      (refused ≡ Err (record {})) × (reply_number number_of_not_good refused ≡ 17)
  -- the highest sequence of a good record
  pub highest_sequence : is_ok (read (fields 4294967294 (replicate 20 0xFF) 0xFFFFFFFF)) ≡ true
  -- an erased record is blank, although its sequence is 4,294,967,295; with any other byte its sequence is bad
  pub erased_record : read (replicate 32 0xFF) ≡ Err Blank
  pub all_but_one_erased : read (replicate 31 0xFF ++ 0xFE ∷ []) ≡ Err BadSequence
  -- a bad sequence comes before a wrong check word, and that before a bad state
  pub zero_record : read (replicate 32 0) ≡ Err BadSequence
  pub zero_sequence : read (fields 0 (replicate 20 0xFF) 5) ≡ Err BadSequence
  pub wrong_check_and_state : read (1 ∷ 0 ∷ 0 ∷ 0 ∷ [] ++ replicate 20 0xFF ++ 5 ∷ replicate 7 0) ≡ Err BadCheckWord
  pub no_state : read (fields 1 (replicate 20 0xFF) 5) ≡ Err BadState
  -- before all of them, the size
  pub one_byte_short : read (replicate 31 0xFF) ≡ Err WrongSize
  pub no_bytes : read [] ≡ Err WrongSize
