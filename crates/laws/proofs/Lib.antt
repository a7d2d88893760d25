pub mod Lined
pub mod Carried
pub mod Lines
pub mod Logical
pub mod ShownPlace
pub mod Views
