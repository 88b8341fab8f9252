pub mod Lists
pub mod TextMaps
pub mod Newer
pub mod Places
pub mod Replays
pub mod Records
pub mod IdLemmas
pub mod Readings
pub mod RecordLaws
mod Worked
pub mod Pairs
pub mod Folding
pub mod Spellings
mod InPlace
pub mod Fronts
pub mod Numbered
pub mod Rising
pub mod Telling
