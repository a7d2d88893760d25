pub mod Chains
pub mod Arrays
pub mod LineMarks
