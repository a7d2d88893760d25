pub mod PatternRows
pub mod ItemOf
pub mod ReadLaws
