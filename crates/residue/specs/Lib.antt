pub mod Prime
pub mod Operations
pub mod Proofs
pub mod Residues
pub mod Delivered
pub mod Sums
