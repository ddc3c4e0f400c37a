pub mod Courses
pub mod Points
pub mod Making
pub mod Steps
pub mod Openings
pub mod Images
pub mod Cores
