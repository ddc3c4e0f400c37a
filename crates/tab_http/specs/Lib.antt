pub mod Headers
pub mod Heads
pub mod HeadStates
pub mod Messages
pub mod Reading
