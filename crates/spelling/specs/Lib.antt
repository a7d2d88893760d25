pub mod Spelling
pub mod Given
pub mod Claims
