pub mod Begun
pub mod Lengths
pub mod Filled
