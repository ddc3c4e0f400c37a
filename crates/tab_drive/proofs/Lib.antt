mod FirstWorld
mod RangeLemmas
mod TableLemmas
mod TableIndexes
pub mod Decisions
pub mod Events
pub mod Exits
pub mod Fronts
pub mod LineTexts
pub mod OpenLines
pub mod OpenMessages
pub mod Outcomes
pub mod Spellings
pub mod Told
pub mod GroupIndexes
pub mod StateSteps
pub mod Whole
pub mod SessionSteps
pub mod ServedEvents
pub mod Schedules
pub mod Words
pub mod InitCauses
pub mod Completeness
pub mod Texts
