pub mod Arm
pub mod Drawings
pub mod Idle
pub mod Rows
