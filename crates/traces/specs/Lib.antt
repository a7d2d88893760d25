pub mod Strokes
pub mod Codes
pub mod Call
pub mod Claims
pub mod Examples
pub mod Stepping
