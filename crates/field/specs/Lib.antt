pub mod FiniteField
pub mod Elements
pub mod Below
pub mod Sums
pub mod Rows
