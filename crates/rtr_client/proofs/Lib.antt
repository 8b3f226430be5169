pub mod Books
pub mod Ticks
