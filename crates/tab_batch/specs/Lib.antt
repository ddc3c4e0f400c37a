pub mod Lines
pub mod Marks
pub mod Boundaries
pub mod Parts
pub mod Requests
pub mod Refusals
pub mod Replies
pub mod Reading
