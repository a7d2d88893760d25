pub mod Writing
pub mod Promised
pub mod Several
pub mod Claims
pub mod Examples
