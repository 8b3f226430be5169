pub mod Rests
pub mod Rows
pub mod Connections
pub mod Agreeing
pub mod Receiving
pub mod Sending
