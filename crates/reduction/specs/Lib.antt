pub mod Promises
pub mod Result
