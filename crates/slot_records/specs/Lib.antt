pub mod Naming
pub mod Placing
