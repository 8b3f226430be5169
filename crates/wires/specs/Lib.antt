pub mod Calls
pub mod Carried
pub mod Counts
pub mod TurnOctets
pub mod Wires
