pub mod Told
pub mod Only
pub mod Parts
pub mod Claimed
