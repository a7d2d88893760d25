pub mod Acting
pub mod LogicalLaws
pub mod Carried
pub mod Cells
pub mod Steps
pub mod Regions
pub mod Rows
