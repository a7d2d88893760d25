pub mod Acted
pub mod Idle
