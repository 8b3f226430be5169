pub mod ExpiredRows
pub mod ListNumbers
pub mod PayloadList
pub mod PayloadRows
pub mod RecordsLeft
pub mod TakenIn
