pub mod FirstLines
pub mod LastSpace
pub mod NameCounts
pub mod SameTexts
pub mod Tallies
