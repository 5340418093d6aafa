-- A sector that is blank, and calls that are refused: what the law of cut rewrites assumes can hold.
use Rattle.std.proofs.Common.{◌≡◌, ℕ, ◌<◌, false, List, [], length, get_or, drop, replicate, refl, sym, ap, ◌∙◌, arith, length-take}
use Rattle.std.proofs.lemmas.List.{get_or-replicate, take_all}
use Rattle.std.proofs.lemmas.Bool.Decides.{nat_tests}
use Rattle.otadata.specs.Record.{is_good}
use Rattle.sectors.specs.Slice.{slice}
use Rattle.sectors.specs.Examples.{BlankLaw, RefusedCalls}
use Rattle.sectors.specs.PowerCut.{IsBlank, reads_as, store_refused, rewrite_refused, IsAllowed}
use Rattle.sectors.proofs.Cuts.{record_is}
use Rattle.sectors.proofs.ReadingLaw.{reads_none}

-- ---- a sector whose record is erased

no_record : is_good (replicate 32 255) ≡ false
unfolding is_good
no_record = refl

module _ (s : List ℕ) (size : length s ≡ 4096) (erased : (j : ℕ) → j < 32 → get_or s j 0 ≡ 255) where
  pub is_blank : IsBlank s
  is_blank = record_is s (replicate 32 255) size refl (λ j below. erased j below ∙ sym (get_or-replicate 32 j 255 0 below))

  pub blank_reads : reads_as s ≡ []
  blank_reads = reads_none s (ap is_good is_blank ∙ no_record)

pub blank_law : BlankLaw
unfolding BlankLaw
blank_law s size erased = (is_blank s size erased, blank_reads s size erased)

-- ---- calls that are refused

-- lent a slice of fewer than 4,096 bytes
module _ (s bytes : List ℕ) (from size : ℕ) (few : size < 4096) where
  short : length (slice from size s) < 4096
  short = omega (arith, length-take size (drop from s))

  pub store_in_slice : (m : ℕ) → IsAllowed (store_refused from size bytes m) s
  store_in_slice m = grind (arith, nat_tests, short)

  pub rewrite_of_slice : IsAllowed (rewrite_refused from size bytes) s
  rewrite_of_slice = grind (arith, nat_tests, short)

-- lent the whole sector
module _ (s : List ℕ) (size : length s ≡ 4096) where
  whole : slice 0 4096 s ≡ s
  whole = take_all 4096 s (omega arith)

  -- there is no store 4,128
  pub store_4128 : (bytes : List ℕ) → length bytes ≡ 32 → IsAllowed (store_refused 0 4096 bytes 4128) s
  store_4128 bytes size_bytes = rw whole (simp (size, size_bytes))

  -- a rewrite with a record of no bytes
  pub rewrite_with_none : IsAllowed (rewrite_refused 0 4096 []) s
  rewrite_with_none = rw whole (simp size)

pub refused_calls : RefusedCalls
refused_calls =
    record {
      store_in_slice = λ s bytes from size m few. store_in_slice s bytes from size few m;
      rewrite_of_slice = rewrite_of_slice;
      store_4128 = λ s bytes size. store_4128 s size bytes;
      rewrite_with_none = rewrite_with_none;
    }
