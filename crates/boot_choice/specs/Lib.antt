pub mod Choice
pub mod Example
pub mod Parts
