mod BodyLemmas
pub mod DecimalLemmas
pub mod Exits
mod HeadLemmas
mod HeaderLemmas
mod MessageLemmas
mod PastLemmas
mod HeadStateLemmas
mod ReadingLemmas
mod TakenLemmas
