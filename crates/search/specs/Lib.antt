pub mod Spelling
pub mod Answers
