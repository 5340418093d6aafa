-- The worked examples, by evaluation; and what a byte is.
use Rattle.std.proofs.Common.{refl}
use Rattle.otadata.specs.CheckWord.{step, steps, after_byte, check_word}
use Rattle.otadata.specs.Record.{is_good, fields, read, made}
use Rattle.otadata.specs.Examples.{Examples}

pub examples : Examples
unfolding made read is_good fields check_word after_byte steps step
examples =
    record {
      check_word_of_1 = refl;
      check_word_of_2 = refl;
      first_record = refl;
      refused_record = (refl, refl);
      highest_sequence = refl;
      erased_record = refl;
      all_but_one_erased = refl;
      zero_record = refl;
      zero_sequence = refl;
      wrong_check_and_state = refl;
      no_state = refl;
      one_byte_short = refl;
      no_bytes = refl;
    }
