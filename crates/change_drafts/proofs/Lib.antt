mod NewestLemmas
pub mod StateLemmas
pub mod ReplayLemmas
pub mod RunLemmas
pub mod BelowLemmas
pub mod NeededLemmas
pub mod UndoLemmas
