pub mod Differences
pub mod PairRows
pub mod HeldWords
pub mod LinkedWords
pub mod WalkSteps
pub mod WorkRows
