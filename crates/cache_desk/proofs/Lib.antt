pub mod Attending
pub mod Lines
pub mod Stopping
