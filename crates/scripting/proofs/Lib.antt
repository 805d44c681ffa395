pub mod Verbs
pub mod Onward
pub mod Shelves
pub mod Made
