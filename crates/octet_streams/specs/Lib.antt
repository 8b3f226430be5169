pub mod Grammar
pub mod Streams
