-- The table of worked examples holds.
-- Assumes nothing.
use Rattle.std.proofs.Common.{◌≡◌, refl}
use Rattle.otadata.specs.declared.states.State.TheVariants.{Pending, Valid}
use Rattle.slot_records.specs.Placing.{next_sequence}
use Rattle.worked_examples.specs.Table.{WorkedExamples}
use Rattle.worked_examples.proofs.Values.{first_record_is, registers, layouts, checks}
use Rattle.worked_examples.proofs.Digests.{hashed_rows}
use Rattle.worked_examples.proofs.Calls.{set_holds, set_refused_holds, boots_holds}

valid_not_pending : Valid ≡ Pending → ⊥
valid_not_pending is = cc

pub worked_examples : WorkedExamples
unfolding WorkedExamples next_sequence
worked_examples = (
  first_record_is,
  (
    set_holds _ _ _ _ (record { below = refl; another = refl }) refl refl,
    (
      set_holds _ _ _ _ (record { below = refl; another = refl }) refl refl,
      (
        set_holds _ _ _ _ (record { below = refl; another = refl }) refl refl,
        (
          set_refused_holds _ _ _ _ (record { below = refl; another = refl }) refl refl,
          (
            boots_holds _ _ _ _ _ _ refl valid_not_pending refl refl,
            (
              registers.of_32,
              (
                layouts.without,
                (
                  layouts.with_digest,
                  (
                    layouts.longer,
                    (
                      checks.flips,
                      (
                        hashed_rows.0,
                        (
                          hashed_rows.1,
                          (
                            checks.version_16,
                            (
                              checks.version_17,
                              (
                                registers.past_16,
                                (
                                  registers.above_16,
                                  (
                                    checks.both_301,
                                    (
                                      checks.least_302,
                                      (
                                        checks.most_300,
                                        (
                                          checks.most_0,
                                          (
                                            checks.most_65535,
                                            tt,
                                          ),
                                        ),
                                      ),
                                    ),
                                  ),
                                ),
                              ),
                            ),
                          ),
                        ),
                      ),
                    ),
                  ),
                ),
              ),
            ),
          ),
        ),
      ),
    ),
  ),
)
