pub mod AnswerLemmas
mod ChildLemmas
pub mod CoverLemmas
mod DepthLemmas
pub mod LineLemmas
mod LookLemmas
pub mod EmptyLemmas
pub mod EndLemmas
pub mod JoinLemmas
pub mod KeptLemmas
pub mod ListLemmas
pub mod OpenLemmas
mod PrefixLemmas
pub mod RowLemmas
pub mod ScanLemmas
pub mod SearchLemmas
pub mod SecondLemmas
mod SeekLemmas
pub mod Shelves
mod SpanLemmas
pub mod TakenLemmas
pub mod Texts
pub mod TreeLemmas
pub mod DraftLemmas
pub mod NeededLemmas
pub mod WayLemmas
