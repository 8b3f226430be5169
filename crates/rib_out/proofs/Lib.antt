pub mod AlikeLists
pub mod HeldRows
pub mod HeldTables
pub mod PrefixRows
pub mod Prefixes
pub mod SlotBits
pub mod NothingWaits
