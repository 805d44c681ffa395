pub mod Units
pub mod Tracking
pub mod Forward
