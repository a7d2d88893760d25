pub mod Painted
pub mod Runs
pub mod Windows
pub mod Views
