pub mod WriteLemmas
mod ReadLemmas
mod KnownLemmas
mod StagedLemmas
pub mod RowLemmas
pub mod SpanLemmas
