pub mod Alike
pub mod Held
pub mod PrefixRows
pub mod Slots
pub mod Waiting
