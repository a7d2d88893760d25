pub mod Chunks
pub mod Runs
