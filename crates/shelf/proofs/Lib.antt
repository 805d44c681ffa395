mod Entries
mod Gating
mod Late
mod Pairing
mod Made
mod Texts
mod Verdicts
mod Cleared
mod Fronts
mod Runs
pub mod Kept
