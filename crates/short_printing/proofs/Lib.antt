pub mod Rows
pub mod Seeing
