pub mod GivenOnce
pub mod GivenValues
pub mod Meanings
pub mod NameLists
pub mod Reading
