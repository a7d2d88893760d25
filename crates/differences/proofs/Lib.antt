pub mod Laws
pub mod Reaching
pub mod Storing
pub mod Claimed
pub mod Shown
