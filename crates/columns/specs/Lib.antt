pub mod Numbers
pub mod Prefixes
pub mod Lines
pub mod Facts
