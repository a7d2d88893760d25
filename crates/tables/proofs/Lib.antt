pub mod IdleLaws
pub mod LengthLaws
