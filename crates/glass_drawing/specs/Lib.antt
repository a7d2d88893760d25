pub mod Curve
pub mod Drawing
pub mod Seen
