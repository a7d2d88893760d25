pub mod Frames
pub mod Sequences
