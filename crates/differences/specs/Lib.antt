pub mod Differences
pub mod Answers
pub mod Claims
pub mod Examples
