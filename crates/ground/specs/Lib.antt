pub mod Frame
pub mod Acts
pub mod Logical
pub mod Here
pub mod Spots
