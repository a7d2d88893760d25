pub mod Going
pub mod Runs
pub mod Turns
