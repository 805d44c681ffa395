pub mod Errors
pub mod Packing
pub mod Theorems
