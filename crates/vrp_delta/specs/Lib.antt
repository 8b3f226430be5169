pub mod Delta
pub mod DeltaNumbers
pub mod Keeping
pub mod Staged
pub mod Steps
pub mod Versions
pub mod Walks
