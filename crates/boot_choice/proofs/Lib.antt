pub mod Examples
pub mod Order
pub mod SameTests
pub mod Search
