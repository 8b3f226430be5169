pub mod ExpiredEntries
pub mod ListFormats
pub mod PayloadDocument
pub mod PayloadEntries
pub mod Places
pub mod WrittenTimes
