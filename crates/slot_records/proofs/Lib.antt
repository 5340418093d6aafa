pub mod Next
pub mod Placed
