pub mod ItemLaws
pub mod EndLaws
pub mod TestLaws
pub mod JoinLaws
pub mod Arrays
pub mod QuietLaws
