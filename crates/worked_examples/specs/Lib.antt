pub mod Digested
pub mod Table
pub mod Witness
