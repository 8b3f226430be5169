pub mod Groups
pub mod PlaceBests
pub mod Moves
pub mod Rounds
pub mod Leaving
pub mod Alone
