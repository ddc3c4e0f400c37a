mod Lists
mod Properties
mod GroupLemmas
pub mod GroupLaws
pub mod SpanLaws
pub mod MergeLaws
mod Merging
mod Planning
