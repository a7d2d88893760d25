pub mod Examples
pub mod Runs
pub mod LineRuns
pub mod WrapRuns
pub mod CurveRuns
pub mod PackRuns
pub mod ShortRuns
