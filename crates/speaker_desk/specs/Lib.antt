pub mod Answering
pub mod Attended
pub mod Moves
pub mod Restarts
pub mod Rounds
pub mod Standing
pub mod Waiting
