pub mod Sizes
pub mod OpeningTests
pub mod MessageTests
pub mod KeyTests
pub mod StoreTests
pub mod Blanks
