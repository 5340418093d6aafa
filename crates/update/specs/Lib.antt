pub mod Tests
pub mod SetBoot
pub mod Marks
pub mod Invalid
pub mod Queries
pub mod Answer
