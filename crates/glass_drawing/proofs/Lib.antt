pub mod Letters
pub mod Reading
pub mod Seen
pub mod Strokes
