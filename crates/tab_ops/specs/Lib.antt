pub mod Groups
pub mod Changes
pub mod Merges
pub mod Laws
pub mod Spans
