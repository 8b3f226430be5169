pub mod Chunks
pub mod Coming
pub mod Gathering
pub mod Resting
