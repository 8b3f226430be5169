pub mod Counting
pub mod Sockets
pub mod Waiting
pub mod Walks
