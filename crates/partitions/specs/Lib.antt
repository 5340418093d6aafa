pub mod Entry
pub mod PartitionList
pub mod RightList
pub mod EntryParts
pub mod Answer
