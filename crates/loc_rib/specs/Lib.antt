pub mod RibTables
pub mod SentTables
