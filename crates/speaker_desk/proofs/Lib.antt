pub mod Attended
pub mod Listening
pub mod Moving
pub mod Rounds
pub mod Texts
