pub mod Forms
pub mod ReducedTables
