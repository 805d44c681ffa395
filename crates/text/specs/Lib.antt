pub mod Texts
pub mod Rows
pub mod Readings
pub mod Facts
