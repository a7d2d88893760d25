pub mod Reading
pub mod Items
pub mod PackValues
pub mod Packs
pub mod Pairs
pub mod Refusals
pub mod Secrecy
