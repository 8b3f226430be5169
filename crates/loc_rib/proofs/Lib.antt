pub mod EndedSlots
pub mod RowFinds
pub mod RowTables
pub mod RowWalks
pub mod SentSteps
pub mod SentTables
