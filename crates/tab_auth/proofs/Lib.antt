pub mod Blocks
pub mod Differences
pub mod Fronts
pub mod Colons
pub mod Signings
