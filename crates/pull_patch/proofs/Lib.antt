mod Eaches
mod Depths
mod Lists
mod WriteLists
pub mod Refusals
mod Joins
mod Unknown
mod WholeNumbers
mod Copies
mod PlainNumbers
mod CopiedTexts
mod Turns
mod Patches
mod PlainResponses
mod Trees
