pub mod Stepping
pub mod Counting
pub mod Laying
pub mod Promises
pub mod Claimed
pub mod Table
