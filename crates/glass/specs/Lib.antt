pub mod Cursor
pub mod Totals
