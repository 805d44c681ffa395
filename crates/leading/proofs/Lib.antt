pub mod UnitRows
pub mod TrackedRows
pub mod LeadingWords
