pub mod Lists
pub mod RowLaws
mod IndexLemmas
pub mod SpanLaws
