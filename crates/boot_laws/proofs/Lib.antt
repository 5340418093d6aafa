pub mod Marks
pub mod Choices
pub mod Boots
pub mod Changes
pub mod Laws
pub mod WithoutRollback
pub mod PowerCut
pub mod TwoOutcomes
