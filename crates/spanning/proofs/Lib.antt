pub mod Pushes
pub mod SpanningColumns
