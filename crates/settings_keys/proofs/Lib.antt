pub mod Faults
pub mod FirstUnknown
