pub mod Kept
pub mod Stirring
pub mod Arms
