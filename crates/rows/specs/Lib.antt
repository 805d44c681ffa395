pub mod Memory
pub mod Layout
pub mod Arithmetic
pub mod Tables
pub mod Seen
pub mod Weighing
pub mod Writing
