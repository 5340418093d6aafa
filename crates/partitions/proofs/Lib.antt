pub mod Answers
pub mod ListRules
pub mod RightMeans
pub mod EntryParts
pub mod Examples
