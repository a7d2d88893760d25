pub mod Panes
pub mod Painted
