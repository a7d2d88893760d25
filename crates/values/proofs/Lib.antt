pub mod Arm
pub mod Idle
