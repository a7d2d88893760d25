pub mod Laid
pub mod Pictures
pub mod Tested
