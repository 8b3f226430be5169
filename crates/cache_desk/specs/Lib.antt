pub mod Clerks
pub mod Desks
pub mod Readings
