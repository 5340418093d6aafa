use Rattle.std.proofs.Common.{◌≡◌, map, length}
use Rattle.partitions.specs.Entry.{entry_of}
use Rattle.partitions.specs.PartitionList.{are_apart}
use Rattle.partitions.proofs.rules.are_apart.Given as goal

abbrev pub invariant-loop-first : goal.invariant-loop-first
invariant-loop-first l = are_apart (map entry_of l.entries) ≡ are_apart (map entry_of l.rest)

abbrev pub decreases-loop-first : goal.decreases-loop-first
decreases-loop-first l = length l.rest
