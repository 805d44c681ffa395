pub mod Laws
pub mod Rows
pub mod Below
pub mod Tests
