pub mod ShownLaws
pub mod Moves
pub mod Windows
