pub mod Texts
pub mod Values
pub mod Entities
pub mod Moments
