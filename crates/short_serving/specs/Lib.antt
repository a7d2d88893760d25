pub mod ServesShort
