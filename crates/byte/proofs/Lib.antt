pub mod Looked
pub mod Rows
pub mod Shifts
pub mod Remainders
