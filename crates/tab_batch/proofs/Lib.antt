mod AnswerLemmas
mod BatchLemmas
mod Exits
mod LineLemmas
mod PieceLemmas
pub mod ReplyLemmas
pub mod PlainLemmas
mod RequestLemmas
mod SectionLemmas
