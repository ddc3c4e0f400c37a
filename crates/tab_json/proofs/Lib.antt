pub mod ObjectLemmas
pub mod Floatless
pub mod Options
pub mod Numbers
pub mod Names
pub mod Json
pub mod Readings
pub mod LineLaws
pub mod MomentTexts
pub mod FlatObjects
pub mod PlainNames
pub mod ValueTrips
pub mod RoundTripLaws
mod SlotLemmas
mod WrittenLemmas
mod LentLemmas
