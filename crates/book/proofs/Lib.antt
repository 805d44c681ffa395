pub mod Places
pub mod Blocks
pub mod Accepting
mod Standing
mod Books
mod Uses
mod Courses
mod Staying
mod Lawful
mod RoundTrips
mod SameStates
pub mod OneRefusal
pub mod OneVerdict
mod Settled
pub mod Checks
