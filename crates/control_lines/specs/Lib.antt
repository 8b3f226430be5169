pub mod Coming
pub mod Lines
pub mod Perhaps
pub mod Talks
