pub mod Pairs
pub mod Comparing
pub mod Walking
