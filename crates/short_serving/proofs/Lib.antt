pub mod Still
pub mod Watching
pub mod Ends
