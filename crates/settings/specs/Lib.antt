pub mod Given
pub mod Obey
