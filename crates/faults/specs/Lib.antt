pub mod Refusals
pub mod Reasons
