pub mod Asides
pub mod Exits
pub mod Words
