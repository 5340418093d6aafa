pub mod Part
pub mod Slice
pub mod Sector
pub mod Rewrite
pub mod PowerCut
pub mod Examples
pub mod Otadata
pub mod Answer
