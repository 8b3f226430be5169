pub mod Digits
mod Headers
mod Meanings
pub mod ReadRows
mod RecordLists
mod Rows
