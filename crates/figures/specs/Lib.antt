pub mod Examples
pub mod Figures
