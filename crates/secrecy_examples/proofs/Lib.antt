pub mod Contrasts
