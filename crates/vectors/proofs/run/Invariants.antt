-- The loop of `vectors::run`.
use Prim.Native.Nat.{◌≤◌, ◌-◌}
use mathlib.Core.Path.{◌≡◌}
use lib.ListN.{length}
use Rattle.vectors.proofs.run.Given as goal

abbrev pub invariant-loop : goal.invariant-loop
invariant-loop l = (l.counter ≤ 100000) × (length l.case ≡ length l.initial.case) × (l.count ≤ length l.list) × (length l.list ≡ length l.initial.list) × (length l.flash ≡ length l.initial.flash)

abbrev pub decreases-loop : goal.decreases-loop
decreases-loop l = 100000 - l.counter
