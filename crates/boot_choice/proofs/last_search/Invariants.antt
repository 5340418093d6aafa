use Rattle.std.proofs.Common.{◌≡◌, ◌-◌, ◌≤◌}
use Rattle.boot_choice.specs.Choice.{first_from, last_search}
use Rattle.boot_choice.proofs.last_search.Given as goal

abbrev pub invariant-loop-slot : goal.invariant-loop-slot
invariant-loop-slot l =
    (l.slot ≤ l.slots) × (first_from l.node l.readings l.slot (l.slots - l.slot) ≡ last_search l.node l.readings)

abbrev pub decreases-loop-slot : goal.decreases-loop-slot
decreases-loop-slot l = l.slots - l.slot
