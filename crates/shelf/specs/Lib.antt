pub mod Views
pub mod Checking
pub mod Clearing
pub mod Performing
