pub mod Found
pub mod Needed
pub mod DecodingLaws
