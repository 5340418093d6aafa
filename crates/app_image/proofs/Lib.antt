pub mod Acceptance
pub mod Examples
pub mod Head
pub mod Tail
pub mod Walk
pub mod Xored
