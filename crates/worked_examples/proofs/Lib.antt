pub mod Values
pub mod Digests
pub mod Calls
pub mod Worked
pub mod Witnesses
