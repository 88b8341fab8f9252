pub mod ChangeLemmas
mod CopyLemmas
mod CountLemmas
mod EmptyLemmas
mod EndLemmas
pub mod FreezeLemmas
mod HeirLemmas
mod KidLemmas
mod LeafLemmas
pub mod NamedLemmas
mod NodeLemmas
mod PathLemmas
pub mod PlaceLemmas
pub mod RemoveLemmas
mod RootLemmas
mod ScanLemmas
mod SecondLemmas
mod RenewLemmas
mod UnputLemmas
mod DepthLemmas
pub mod WideLemmas
mod BelowLemmas
mod TrailLemmas
mod SpotLemmas
mod StepLemmas
mod NeededLemmas
mod WalkLemmas
pub mod LevelLemmas
pub mod PutLevels
pub mod FreezeLevels
mod KeptLevels
mod NarrowLemmas
pub mod RemoveLevels
pub mod WayLemmas
mod UpdateLemmas
mod AmongLemmas
mod LeafEnds
mod LeafRows
mod GrownLemmas
