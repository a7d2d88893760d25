pub mod Computing
pub mod Worked
pub mod ComputingLaws
pub mod Bays
