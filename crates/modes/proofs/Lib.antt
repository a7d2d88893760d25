pub mod Displays
pub mod Parts
