pub mod Export
pub mod Rewriting
