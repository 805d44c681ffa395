pub mod Arguments
pub mod Choices
pub mod Endings
