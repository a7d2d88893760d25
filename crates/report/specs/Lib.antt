pub mod Adler
pub mod Letters
