pub mod Updates
pub mod Offsets
pub mod Remainders
pub mod Bases
pub mod Taken
