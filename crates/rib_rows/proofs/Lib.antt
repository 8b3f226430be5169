pub mod RecordTables
pub mod RowSteps
pub mod SentSteps
pub mod SentWalks
