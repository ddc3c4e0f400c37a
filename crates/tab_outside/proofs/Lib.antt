mod Fronts
mod Overwrites
mod LogLemmas
mod Settling
pub mod Moments
