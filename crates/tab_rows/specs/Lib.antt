pub mod Rows
pub mod Indices
pub mod Spans
