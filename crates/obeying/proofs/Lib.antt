pub mod Layers
pub mod Wiping
