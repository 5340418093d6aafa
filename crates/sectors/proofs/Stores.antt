-- A rewrite store by store.
use Rattle.std.proofs.Common.{◌≡◌, ℕ, zero, suc, ◌+◌, ◌<◌, true, List, length, Ok, Err, refl, ap, ◌∙◌, add-one, arith, length-set}
use Rattle.std.specs.Result.{result_unwrap_or}
use Rattle.std.proofs.lemmas.Bool.Decides.{nat_tests}
use Rattle.sectors.specs.declared.TheConstants.{STORES}
use Rattle.sectors.specs.declared.rewriting.Refusal.{Refusal}
use Rattle.sectors.specs.Rewrite.{stored, cut, are_sized, done, single_store, rewrite}
use Rattle.sectors.specs.PowerCut.{StoreByStore}

module _ (s rec : List ℕ) where
  pub cut_none : cut rec 0 s ≡ s
  unfolding cut
  cut_none = refl

  pub cut-suc : (k : ℕ) → cut rec (suc k) s ≡ stored rec k (cut rec k s)
  unfolding cut
  cut-suc k = refl

  pub cut_more : (k : ℕ) → cut rec (k + 1) s ≡ stored rec k (cut rec k s)
  cut_more k = ap (λ j. cut rec j s) (add-one k) ∙ cut-suc k

pub length-stored : (s rec : List ℕ) (m : ℕ) → length (stored rec m s) ≡ length s
unfolding stored
length-stored s rec m = grind (arith, nat_tests, length-set {A = ℕ})

pub length-cut : (s rec : List ℕ) (k : ℕ) → length (cut rec k s) ≡ length s
length-cut s rec zero = ap length (cut_none s rec)
length-cut s rec (suc k) = ap length (cut-suc s rec k) ∙ length-stored (cut rec k s) rec k ∙ length-cut s rec k

-- a turn of the loop: where the store was done, both sizes are right, and the sector is cut one store further
module _ (s rec now next : List ℕ) (m : ℕ) (below : m < STORES) (so_far : now ≡ cut rec m s)
    (leaves : next ≡ result_unwrap_or (single_store now rec m) now) where
  same_size : length now ≡ length s
  same_size = ap length so_far ∙ length-cut s rec m

  pub turn_done : Ok tt ≡ done (single_store now rec m) → (next ≡ cut rec (m + 1) s) × (are_sized s rec ≡ true)
  turn_done is_ok = (grind (arith, nat_tests, cut_more s rec m, same_size), grind (arith, nat_tests, same_size))

  -- a store is refused for a size alone, and so the first one
  pub turn_refused : (e : Refusal) → Err e ≡ done (single_store now rec m) → (0 < m → are_sized s rec ≡ true)
      → next ≡ result_unwrap_or (rewrite s rec) s
  turn_refused e is_err sized = grind (arith, nat_tests, cut_none s rec, same_size)

pub store_by_store : StoreByStore
unfolding StoreByStore
store_by_store s rec k size size_rec below = grind (arith, nat_tests, cut_more s rec k, length-cut s rec k)
