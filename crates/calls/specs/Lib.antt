pub mod Packs
pub mod Repaint
pub mod SecretRules
pub mod Calls
pub mod Opening
pub mod Claims
pub mod Lists
