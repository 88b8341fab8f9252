mod DeleteLemmas
mod LevelCounts
mod PlaceLemmas
mod PutTrees
pub mod RootCounts
pub mod WriteLemmas
pub mod BelowLemmas
