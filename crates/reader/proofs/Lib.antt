pub mod Moves
pub mod Runs
pub mod Single
