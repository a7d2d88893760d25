pub mod Laws
pub mod Accepted
pub mod Only
pub mod Behind
pub mod Claimed
pub mod Shown
