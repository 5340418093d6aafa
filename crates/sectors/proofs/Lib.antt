pub mod Stores
pub mod Cuts
pub mod ReadingLaw
pub mod Restating
pub mod Slices
pub mod TwoSectors
pub mod Examples
pub mod Activity
