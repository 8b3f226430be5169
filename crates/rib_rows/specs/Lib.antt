pub mod PrefixRows
pub mod Records
