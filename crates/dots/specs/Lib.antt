pub mod Claims
pub mod Walk
