-- The tests of a list's words and of a node are the same.
use Rattle.std.proofs.Common.{arith}
use Rattle.node.specs.Node.{node_of}
use Rattle.partitions.specs.PartitionList.{list_of, check}
use Rattle.boot_choice.specs.Parts.{accepted_node, accepted, SameTests}

pub same_tests : SameTests
unfolding SameTests accepted accepted_node check node_of list_of
same_tests words flash size settings = grind arith
