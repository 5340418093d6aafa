-- One turn of the last search.
use Rattle.std.proofs.Common.{◌≡◌, ℕ, suc, ◌+◌, ◌-◌, ◌<◌, ◌≤◌, List, Some, None, arith, refl}
use Rattle.std.specs.Option.{option_or}
use Rattle.node.specs.declared.Node.{Node}
use Rattle.boot_choice.specs.declared.Choice.{Choice}
use Rattle.otadata.specs.Record.{Reading}
use Rattle.boot_choice.specs.Choice.{candidate, first_from}

first_from-more : (node : Node) (readings : List Reading) (s k n : ℕ) → n ≡ suc k
    → first_from node readings s n ≡ option_or (candidate node readings (record { 0 = s })) (first_from node readings (s + 1) k)
unfolding first_from
first_from-more node readings s k n is = rw is refl

-- slot s is passed over
pub first_from_none : (node : Node) (readings : List Reading) (s end : ℕ) → candidate node readings (record { 0 = s }) ≡ None → s < end
    → first_from node readings s (end - s) ≡ first_from node readings (s + 1) (end - (s + 1))
first_from_none node readings s end none below =
    let more = first_from-more node readings s (end - (s + 1)) (end - s) (omega arith) in
    rw (more, none) refl

-- slot s is found
pub first_from_some : (node : Node) (readings : List Reading) (s end : ℕ) (found : Choice) → candidate node readings (record { 0 = s }) ≡ Some found → s < end
    → first_from node readings s (end - s) ≡ Some found
first_from_some node readings s end found some below =
    let more = first_from-more node readings s (end - (s + 1)) (end - s) (omega arith) in
    rw (more, some) refl

-- none is left
pub first_from_end : (node : Node) (readings : List Reading) (s end : ℕ) → end ≤ s → first_from node readings s (end - s) ≡ None
unfolding first_from
first_from_end node readings s end past = let none : end - s ≡ 0 = omega arith in rw none refl
